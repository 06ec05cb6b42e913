-- A call is given only for its fragments.
use Rattle.std.proofs.Common.{◌≡◌, ◌∙◌, ℕ, ◌+◌, ◌≤◌, ◌&&◌, ◌||◌, Bool, not, true, false, cond, eqb, eq-eqb, ltb, List, [], ◌∷◌, ◌++◌, Option, Some, None, Result, Ok, Err, refl, sym, ap, subst, length, length-append, arith}
use Rattle.std.proofs.lemmas.Bool.{ltb-false, not-false}
use Rattle.ndr_core.proofs.Steps.{or_false}
use Rattle.rpc_frag.specs.declared.fragment.Fragment.{Fragment}
use Rattle.rpc_frag.specs.declared.fragment.Whole.{Whole}
use Rattle.rpc_frag.specs.declared.refusal.FragBad.{FragBad}
use Rattle.rpc_frag.specs.declared.refusal.FragBad.TheVariants.{FragOrder, FragTooLong}
use Rattle.rpc_frag.specs.Fragments.{is_first, is_last, is_same}
use Rattle.rpc_frag.specs.Assembling.{◌>>=◌, AreParts, GivenForItsFragments, answered, begin, extended, feed_of, joined, run, told, within}

-- ---- steps that succeeded

bind_ok : {A B : Type 0} (r : Result A FragBad) (f : A → Result B FragBad) (y : B) → (r >>= f) ≡ Ok y → (x : A) × (r ≡ Ok x) × (f x ≡ Ok y)
bind_ok (Ok x) f y e = (x, refl, e)
bind_ok (Err d) f y e = absurd cc

refused_no : {A : Type 0} (b : Bool) (bad : FragBad) (rest : Result A FragBad) (x : A) → cond b (Err bad) rest ≡ Ok x → (b ≡ false) × (rest ≡ Ok x)
refused_no true bad rest x e = absurd cc
refused_no false bad rest x e = (refl, e)

abbrev done : {A : Type 0} → A → Result A FragBad
done x = Ok x

ok_is : {A : Type 0} (x y : A) → done x ≡ done y → x ≡ y
ok_is x y e = cc

within_ok : (size : ℕ) (u : Unit {0}) → within size ≡ Ok u → size ≤ 8388608
within_ok size u e = ltb-false _ _ (refused_no (ltb 8388608 size) (FragTooLong size) (Ok tt) u e).0

-- ---- one fragment

-- what has come of a stub
abbrev front_of : Option Whole → List ℕ
front_of None = []
front_of (Some b) = b.stub

abbrev is_begun : Option Whole → Bool
is_begun None = false
is_begun (Some b) = true

-- what is begun is of the call
abbrev IsOf : Whole → Option Whole → Type 0
IsOf w None = Unit {0}
IsOf w (Some b) = (b.call ≡ w.call) × (b.context ≡ w.context) × (b.opnum ≡ w.opnum)

-- what is begun with a fragment that was taken
record Joined (begun : Option Whole) (f : Fragment) (v : Whole) : Type 0 where
  first : is_first f ≡ not (is_begun begun)
  same : is_same v f ≡ true
  call : IsOf v begun
  stub : v.stub ≡ front_of begun ++ f.stub
  short : length v.stub ≤ 8388608

abbrev begun_by : Fragment → Whole
begun_by f = record { call = f.call; context = f.context; opnum = f.opnum; stub = f.stub }

abbrev longer : Whole → Fragment → Whole
longer b f = record { call = b.call; context = b.context; opnum = b.opnum; stub = b.stub ++ f.stub }

begins : (f : Fragment) (v : Whole) → begin f ≡ Ok v → Joined None f v
begins f v e =
    let a = refused_no (not (is_first f)) FragOrder (within (length f.stub) >>= λ fits. done (begun_by f)) v e in
    let g = bind_ok (within (length f.stub)) (λ fits. done (begun_by f)) v a.1 in
    let same : is_same (begun_by f) f ≡ true = rw (eq-eqb f.call f.call refl, eq-eqb f.context f.context refl, eq-eqb f.opnum f.opnum refl) refl in
    let made : Joined None f (begun_by f) = record { first = not-false (is_first f) a.0; same = same; call = tt; stub = refl; short = within_ok (length f.stub) g.0 g.1 } in
    subst (λ (w : Whole). Joined None f w) (ok_is (begun_by f) v g.2) made

extends : (b : Whole) (f : Fragment) (v : Whole) → extended b f ≡ Ok v → Joined (Some b) f v
extends b f v e =
    let size : ℕ = length b.stub + length f.stub in
    let a = refused_no (is_first f || not (is_same b f)) FragOrder (within size >>= λ fits. done (longer b f)) v e in
    let k = or_false (is_first f) (not (is_same b f)) a.0 in
    let g = bind_ok (within size) (λ fits. done (longer b f)) v a.1 in
    let short : length (b.stub ++ f.stub) ≤ 8388608 = omega (arith, within_ok size g.0 g.1, length-append b.stub f.stub) in
    let made : Joined (Some b) f (longer b f) = record { first = k.0; same = not-false (is_same b f) k.1; call = (refl, refl, refl); stub = refl; short = short } in
    subst (λ (w : Whole). Joined (Some b) f w) (ok_is (longer b f) v g.2) made

joins : (begun : Option Whole) (f : Fragment) (v : Whole) → joined begun f ≡ Ok v → Joined begun f v
joins None f v e = begins f v e
joins (Some b) f v e = extends b f v e

-- ---- several fragments

abbrev Ran : Type 0
Ran = List Whole × Option Whole

abbrev put : Option Whole → Ran → Ran
put call r = (answered call r.0, r.1)

-- the first fragment, and the run behind it
record Step (begun : Option Whole) (f : Fragment) (fs : List Fragment) (all : Ran) : Type 0 where
  whole : Whole
  joined : Joined begun f whole
  rest : Ran
  ran : run (told (is_last f) whole).1 fs ≡ Ok rest
  gives : put (told (is_last f) whole).0 rest ≡ all

steps : (begun : Option Whole) (f : Fragment) (fs : List Fragment) (all : Ran) → run begun (f ∷ fs) ≡ Ok all → Step begun f fs all
steps begun f fs all e =
    let g = bind_ok (feed_of begun f) (λ x. run x.1 fs >>= λ r. done (put x.0 r)) all e in
    let j = bind_ok (joined begun f) (λ v. done (told (is_last f) v)) g.0 g.1 in
    let same : told (is_last f) j.0 ≡ g.0 = ok_is _ _ j.2 in
    let behind : (run (told (is_last f) j.0).1 fs >>= λ r. done (put (told (is_last f) j.0).0 r)) ≡ Ok all = subst (λ (x : Option Whole × Option Whole). (run x.1 fs >>= λ r. done (put x.0 r)) ≡ Ok all) (sym same) g.2 in
    let h = bind_ok (run (told (is_last f) j.0).1 fs) (λ r. done (put (told (is_last f) j.0).0 r)) all behind in
    record { whole = j.0; joined = joins begun f j.0 j.1; rest = h.0; ran = h.1; gives = ok_is _ _ h.2 }

-- where no call is given and nothing is begun, no fragment has come
abbrev Nothing : Option Whole → List Fragment → Type 0
Nothing begun fs = (begun ≡ None) × (fs ≡ [])

no_call : (last : Bool) (v : Whole) (fs : List Fragment) (rest : Ran) → ((b : Whole) → run (Some b) fs ≡ Ok ([], None) → Nothing (Some b) fs) → run (told last v).1 fs ≡ Ok rest → put (told last v).0 rest ≡ ([], None) → ⊥
no_call true v fs rest later ran gives = let e : v ∷ rest.0 ≡ [] = ap (λ (r : Ran). r.0) gives in absurd cc
no_call false v fs rest later ran gives =
    let none : Some v ≡ None = (later v (ran ∙ ap (λ (r : Ran). done r) gives)).0 in
    absurd cc

nothing : (begun : Option Whole) (fs : List Fragment) → run begun fs ≡ Ok ([], None) → Nothing begun fs
nothing begun [] e = (ap (λ (r : Ran). r.1) (ok_is ([], begun) ([], None) e), refl)
nothing begun (f ∷ fs) e =
    let s = steps begun f fs ([], None) e in
    absurd (no_call (is_last f) s.whole fs s.rest (λ b ran. nothing (Some b) fs ran) s.ran s.gives)

-- ---- the call

-- fragments of a call, behind what is begun
record Given (w : Whole) (begun : Option Whole) (fs : List Fragment) : Type 0 where
  call : IsOf w begun
  short : length w.stub ≤ 8388608
  parts : AreParts w (is_begun begun) (front_of begun) fs

same_of : (v w : Whole) (f : Fragment) → IsOf w (Some v) → is_same v f ≡ true → is_same w f ≡ true
same_of v w f o e = (λ i. (eqb (sym o.0 i) f.call && eqb (sym o.1 i) f.context) && eqb (sym o.2 i) f.opnum) ∙ e

call_of : (v w : Whole) (begun : Option Whole) → IsOf v begun → IsOf w (Some v) → IsOf w begun
call_of v w None a b = tt
call_of v w (Some u) a b = (a.0 ∙ b.0, a.1 ∙ b.1, a.2 ∙ b.2)

more_parts : (w : Whole) (begun : Bool) (front stub : List ℕ) (f : Fragment) (fs : List Fragment) → is_first f ≡ not begun → is_same w f ≡ true → is_last f ≡ false → stub ≡ front ++ f.stub → AreParts w true stub fs → AreParts w begun front (f ∷ fs)
more_parts w begun front stub f [] first same last is parts = absurd parts
more_parts w begun front stub f (g ∷ fs) first same last is parts = (first, same, last, subst (λ (t : List ℕ). AreParts w true t (g ∷ fs)) is parts)

heads : (v w : Whole) (vs ws : List Whole) → v ∷ vs ≡ w ∷ ws → (v ≡ w) × (vs ≡ ws)
heads v w vs ws e = (cc, cc)

given_by : (last : Bool) (w : Whole) (begun : Option Whole) (f : Fragment) (fs : List Fragment) (v : Whole) (rest : Ran) → is_last f ≡ last → ((b : Whole) → run (Some b) fs ≡ Ok (w ∷ [], None) → Given w (Some b) fs) → Joined begun f v
    → run (told last v).1 fs ≡ Ok rest → put (told last v).0 rest ≡ (w ∷ [], None) → Given w begun (f ∷ fs)
given_by true w begun f fs v rest last later j ran gives =
    let one = heads v w rest.0 [] (ap (λ (r : Ran). r.0) gives) in
    let ended : rest ≡ ([], None) = λ i. (one.1 i, ap (λ (r : Ran). r.1) gives i) in
    let none = nothing None fs (ran ∙ ap (λ (r : Ran). done r) ended) in
    let is : Joined begun f w = subst (λ (u : Whole). Joined begun f u) one.0 j in
    record {
      call = is.call;
      short = is.short;
      parts = subst (λ (gs : List Fragment). AreParts w (is_begun begun) (front_of begun) (f ∷ gs)) (sym none.1) (is.first, is.same, last, sym is.stub);
    }
given_by false w begun f fs v rest last later j ran gives =
    let g = later v (ran ∙ ap (λ (r : Ran). done r) gives) in
    record {
      call = call_of v w begun j.call g.call;
      short = g.short;
      parts = more_parts w (is_begun begun) (front_of begun) v.stub f fs j.first (same_of v w f g.call j.same) last j.stub g.parts;
    }

given : (w : Whole) (begun : Option Whole) (fs : List Fragment) → run begun fs ≡ Ok (w ∷ [], None) → Given w begun fs
given w begun [] e = let none : [] ≡ w ∷ [] = ap (λ (r : Ran). r.0) (ok_is ([], begun) (w ∷ [], None) e) in absurd cc
given w begun (f ∷ fs) e =
    let s = steps begun f fs (w ∷ [], None) e in
    given_by (is_last f) w begun f fs s.whole s.rest refl (λ b ran. given w (Some b) fs ran) s.joined s.ran s.gives

pub given_for_its_fragments : GivenForItsFragments
given_for_its_fragments w fs e = let g = given w None fs e in (g.short, g.parts)
