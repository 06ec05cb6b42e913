-- The fragments of a call give it back.
use Rattle.std.proofs.Common.{◌≡◌, ℕ, ◌+◌, ◌≤◌, ◌&&◌, Bool, not, true, false, cond, eqb, List, [], ◌∷◌, ◌++◌, Option, Some, None, Result, Ok, Err, refl, sym, ap, ◌∙◌, length, length-append, arith, le-ltb}
use Rattle.std.proofs.lemmas.Bool.{eqb-true}
use Rattle.ndr_core.proofs.Steps.{both_of}
use Rattle.rpc_frag.specs.declared.fragment.Fragment.{Fragment}
use Rattle.rpc_frag.specs.declared.fragment.Whole.{Whole}
use Rattle.rpc_frag.specs.declared.refusal.FragBad.{FragBad}
use Rattle.rpc_frag.specs.declared.refusal.FragBad.TheVariants.{FragOrder}
use Rattle.rpc_frag.specs.Fragments.{is_first, is_last, is_same}
use Rattle.rpc_frag.specs.Assembling.{◌>>=◌, AreParts, FragmentsGiveTheirCall, answered, feed_of, joined, run, told, within}

-- a call with these bytes of its stub
abbrev so_far : Whole → List ℕ → Whole
so_far w front = record { call = w.call; context = w.context; opnum = w.opnum; stub = front }

-- what a first fragment of the call begins
abbrev begun_by : Fragment → Whole
begun_by f = record { call = f.call; context = f.context; opnum = f.opnum; stub = f.stub }

begin_same : (w : Whole) (f : Fragment) → is_same w f ≡ true → begun_by f ≡ so_far w f.stub
begin_same w f e =
    let outer = both_of (eqb w.call f.call && eqb w.context f.context) (eqb w.opnum f.opnum) e in
    let inner = both_of (eqb w.call f.call) (eqb w.context f.context) outer.0 in
    let call = eqb-true _ _ inner.0 in
    let context = eqb-true _ _ inner.1 in
    let opnum = eqb-true _ _ outer.1 in
    λ i. record { call = sym call i; context = sym context i; opnum = sym opnum i; stub = f.stub }

-- the bytes so far are no more than all
shorter : (w : Whole) (begun : Bool) (front : List ℕ) (fs : List Fragment) → AreParts w begun front fs → length front ≤ length w.stub
shorter w begun front [] parts = absurd parts
shorter w begun front (f ∷ []) parts = omega (arith, ap length parts.3, length-append front f.stub)
shorter w begun front (f ∷ g ∷ fs) parts = omega (arith, shorter w true (front ++ f.stub) (g ∷ fs) parts.3, length-append front f.stub)

abbrev ok : Whole → Result Whole FragBad
ok v = Ok v

abbrev pair : Option Whole × Option Whole → Result (Option Whole × Option Whole) FragBad
pair p = Ok p

abbrev given : Whole → Result (List Whole × Option Whole) FragBad
given w = Ok (w ∷ [], None)

-- what is begun with these bytes
abbrev state : Whole → Bool → List ℕ → Option Whole
state w begun front = cond begun (Some (so_far w front)) None

within_is : (size : ℕ) → size ≤ 8388608 → within size ≡ Ok tt
within_is size fits = rw (le-ltb 8388608 size fits) refl

joins : (w : Whole) (begun : Bool) (front : List ℕ) (f : Fragment) → (begun ≡ false → front ≡ []) → is_first f ≡ not begun → is_same w f ≡ true → length (front ++ f.stub) ≤ 8388608
    → joined (state w begun front) f ≡ Ok (so_far w (front ++ f.stub))
joins w true front f empty first same short =
    let fits : length front + length f.stub ≤ 8388608 = omega (arith, short, length-append front f.stub) in
    rw (first, same, le-ltb 8388608 (length front + length f.stub) fits) refl
joins w false front f empty first same short =
    let none : front ≡ [] = empty refl in
    let at : front ++ f.stub ≡ f.stub = ap (λ (xs : List ℕ). xs ++ f.stub) none in
    let fits : length f.stub ≤ 8388608 = omega (arith, short, ap length at) in
    ap (λ b. cond (not b) (Err FragOrder) (within (length f.stub) >>= λ fits. Ok (begun_by f))) first
    ∙ ap (λ r. r >>= λ fits. ok (begun_by f)) (within_is (length f.stub) fits)
    ∙ ap ok (begin_same w f same ∙ ap (so_far w) (sym at))

parts_give : (w : Whole) (begun : Bool) (front : List ℕ) (fs : List Fragment) → length w.stub ≤ 8388608 → (begun ≡ false → front ≡ []) → AreParts w begun front fs → run (state w begun front) fs ≡ Ok (w ∷ [], None)
parts_give w begun front [] limit empty parts = absurd parts
parts_give w begun front (f ∷ []) limit empty parts =
    let short : length (front ++ f.stub) ≤ 8388608 = omega (arith, limit, ap length parts.3) in
    let fed : feed_of (state w begun front) f ≡ Ok (Some (so_far w (front ++ f.stub)), None) = ap (λ r. r >>= λ v. pair (told (is_last f) v)) (joins w begun front f empty parts.0 parts.1 short) ∙ ap (λ b. pair (told b (so_far w (front ++ f.stub)))) parts.2 in
    ap (λ r. r >>= λ x. run x.1 [] >>= λ s. Ok (answered x.0 s.0, s.1)) fed ∙ ap (λ (stub : List ℕ). given (so_far w stub)) parts.3
parts_give w begun front (f ∷ g ∷ fs) limit empty parts =
    let short : length (front ++ f.stub) ≤ 8388608 = omega (arith, limit, shorter w true (front ++ f.stub) (g ∷ fs) parts.3) in
    let fed : feed_of (state w begun front) f ≡ Ok (None, Some (so_far w (front ++ f.stub))) = ap (λ r. r >>= λ v. pair (told (is_last f) v)) (joins w begun front f empty parts.0 parts.1 short) ∙ ap (λ b. pair (told b (so_far w (front ++ f.stub)))) parts.2 in
    let later = parts_give w true (front ++ f.stub) (g ∷ fs) limit (λ e. absurd cc) parts.3 in
    ap (λ r. r >>= λ x. run x.1 (g ∷ fs) >>= λ s. Ok (answered x.0 s.0, s.1)) fed ∙ ap (λ r. r >>= λ s. Ok (answered None s.0, s.1)) later

pub fragments_give_their_call : FragmentsGiveTheirCall
fragments_give_their_call w fs limit parts = parts_give w false [] fs limit (λ e. refl) parts
