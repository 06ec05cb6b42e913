-- The fresh slot is made.
use Rattle.std.proofs.Common.{◌≡◌, ◌⊎◌, ℕ, ◌+◌, ◌-◌, ◌%◌, ◌^◌, Bool, false, List, [], ◌∷◌, ◌++◌, length, refl, sym, ap, ◌∙◌, subst, arith, inl, inr, Option, Some, None, if◌then◌else◌}
use Rattle.std.proofs.lemmas.List.Elements.{All-nil}
use Rattle.std.specs.Prelude.{MatchOption}
use Rattle.frs_base.specs.Machines.{Rules}
use Rattle.frs_disk.specs.Crashes.{Crash, IsImage, IsStill, Leaves, still}
use Rattle.frs_disk.specs.Moments.{Goes, Now, Since, seen_now, top}
use Rattle.frs_disk.proofs.Moments.{goes_map, only_still}
use Rattle.frs_journal.specs.Gates.{Gated, Has, IsCleared, Renewing}
use Rattle.frs_journal.specs.Loads.{Loads}
use Rattle.frs_journal.specs.Rests.{Always, Kept, Pairs}
use Rattle.frs_journal.specs.Slots.{Holds, IsList, IsShort, Yields, generation_of, head, serial_at, serial_by, serial_of, slot_front, taken, takes_b, wire}
use Rattle.frs_journal.specs.Unmade.{IsBegun, IsNone, fresh_body}
use Rattle.frs_journal.specs.Loads.{AnyMoment}
use Rattle.frs_journal.specs.Slots.{slot_a, slot_b}
use Rattle.frs_journal.proofs.Commits.{any_might, loads_slot, now_map, since_same}
use Rattle.frs_journal.proofs.Fronts.{front_marked, is_one, wire_0}
use Rattle.frs_journal.proofs.Nones.{cleared_none, closed_none, empty_none, none_yields}

pub fresh_is : 1 ∷ fresh_body ≡ slot_front 1 0 [] ++ 0 ∷ []
unfolding head
fresh_is = refl

fresh_size : length (slot_front 1 0 []) + 1 ≡ 26
unfolding head
fresh_size = refl

gated_begun : (body c : List ℕ) → body ≡ fresh_body → Gated [] body c → IsBegun c
gated_begun body c is gated = by_gate (is_one gated.gate)
  where
    by_gate : (gated.gate ≡ 1) ⊎ (gated.gate ≡ 1 → ⊥) → IsBegun c
    by_gate (inl opens) = inr (gated.bytes ∙ ap (λ (l : ℕ). l ∷ gated.rest) opens ∙ ap (λ (l : List ℕ). 1 ∷ l) (gated.whole opens ∙ is))
    by_gate (inr closed) = let P : List ℕ → Type 0 = λ l. IsNone l in inl (subst P (sym gated.bytes) (closed_none gated.gate gated.rest closed))

-- a slot that isn't valid is made anew
pub renew_begins : (body : List ℕ) (a b : Option (List Crash)) → body ≡ fresh_body → Now (λ s. IsNone s.seen) a → Renewing body a b → Goes (Leaves IsBegun) a b
renew_begins body None b is none going = going
renew_begins body (Some ss) b is none going =
    goes_map (Leaves (λ c. IsCleared (seen_now ss) c ⊎ Gated [] body c)) (Leaves IsBegun) (Some ss) b (λ s leaves. λ c image. by_kind c (leaves c image)) going
  where
    by_kind : (c : List ℕ) → IsCleared (seen_now ss) c ⊎ Gated [] body c → IsBegun c
    by_kind c (inl cleared) = inl (cleared_none (seen_now ss) c none cleared)
    by_kind c (inr gated) = gated_begun body c is gated

pub has_none : (a : Option (List Crash)) → Has [] a → Now (λ s. IsNone s.seen) a
has_none a has = now_map (λ s. s ≡ still []) (λ s. IsNone s.seen) a (λ s e. (let P : Crash → Type 0 = λ t. IsNone t.seen in subst P (sym e) empty_none)) has

pub has_begun : (a : Option (List Crash)) → Has [] a → Now (Leaves IsBegun) a
has_begun a has =
    now_map (λ s. s ≡ still []) (Leaves IsBegun) a
    (λ s e. λ c image. (let P : Crash → Type 0 = λ t. IsImage t c in let Q : List ℕ → Type 0 = λ l. IsBegun l in subst Q (sym (only_still [] c (subst P e image))) (inl empty_none))) has

taken_none : (c d : List ℕ) → generation_of c ≡ None → generation_of d ≡ None → taken c d ≡ c
taken_none c d e f = ap (λ g. if takes_b g (generation_of d) then d else c) e ∙ ap (λ g. if takes_b None g then d else c) f

module _ {M C : Type 0} (law : Rules M C) where
  -- a load gives the fresh machine
  pub begun_loads : (m : M) (c d : List ℕ) → law.origin m ≡ m → IsBegun c → IsNone d → Loads law m 0 c d
  begun_loads m c d fresh (inl none) other =
      let same = taken_none c d none.unmarked other.unmarked in
      let P : List ℕ → Type 0 = λ l. IsList l [] in
      let Q : Option ℕ → Type 0 = λ o. MatchOption o (◌≡◌ {A = List (List ℕ)} [] []) (λ _. Holds c []) in
      record {
        commands = [];
        mark = [];
        saved = 0;
        marked = refl;
        enough = omega arith;
        known = All-nil law.is_cmd;
        log = record { good_a = none.fine; good_b = other.fine; list = subst P (sym same) (subst Q (sym none.unmarked) refl) };
        runs = sym fresh;
        count = sym (ap (λ (l : List ℕ). (serial_of l + (0 - 0)) % 2 ^ 64) same ∙ ap (λ o. (serial_by o (serial_at c) + (0 - 0)) % 2 ^ 64) none.unmarked);
      }
  begun_loads m c d fresh (inr is) other =
      loads_slot law m 0 false [] [] 0 1 0 0 [] c d refl (omega arith) (All-nil law.is_cmd) (All-nil IsShort) (sym fresh) (is ∙ fresh_is) (λ h. absurd (omega (arith, h)))
      (none_yields false (wire 1) d other) (ap (λ n. (n + (0 - 0)) % 2 ^ 64) (sym wire_0))

  pub fresh_crash : (m : M) (a a' b b' : Option (List Crash)) → law.origin m ≡ m → Has [] a → Has [] b → Goes (Leaves IsBegun) a a' → b' ≡ b
      → Always (Loads law m 0) a a' b b'
  fresh_crash m a a' b b' fresh has_a has_b going same = (now_map (Leaves IsBegun) P a at (has_begun a has_a), goes_map (Leaves IsBegun) P a a' at going)
    where
      P : Crash → Type 0
      P s = Since (Pairs (Loads law m 0) s) b b'

      at : (s : Crash) → Leaves IsBegun s → P s
      at s leaves = since_same (Pairs (Loads law m 0) s) b b' (now_map (λ t. t ≡ still []) (Pairs (Loads law m 0) s) b
          (λ t e. λ c d ic id. (let S : Crash → Type 0 = λ t. IsImage t d in let T : List ℕ → Type 0 = λ l. IsNone l in
          begun_loads m c d fresh (leaves c ic) (subst T (sym (only_still [] d (subst S e id))) empty_none))) has_b) same

  -- the fresh slot stands for the fresh machine, over another one that isn't valid
  pub fresh_kept : (m : M) (body : List ℕ) (a b : Option (List Crash)) → law.origin m ≡ m → body ≡ fresh_body → Has (1 ∷ body) a
      → Now (Leaves IsNone) b → Kept law m false 26 0 a b
  fresh_kept m body None b fresh is has other = tt
  fresh_kept m body (Some ss) b fresh is has other =
      let e : top ss ≡ still (slot_front 1 0 [] ++ 0 ∷ []) = has ∙ ap (λ (l : List ℕ). still (1 ∷ l)) is ∙ ap still fresh_is in
      record {
        commands = [];
        mark = [];
        saved = 0;
        generation = 1;
        first = 0;
        closing = 0;
        marked = refl;
        enough = omega arith;
        closed = λ h. absurd (omega (arith, h));
        known = All-nil law.is_cmd;
        short = All-nil IsShort;
        bytes = e;
        size = fresh_size;
        count = ap (λ n. (n + (0 - 0)) % 2 ^ 64) (sym wire_0);
        runs = sym fresh;
        yields = now_map (Leaves IsNone) (Leaves (Yields false (generation_of (seen_now ss)))) b
            (λ t leaves. λ d image. (let Q : Option ℕ → Type 0 = λ g. Yields false g d in
            subst Q (sym (ap (λ (s : Crash). generation_of s.seen) e ∙ front_marked 1 0 [] 0 [])) (none_yields false (wire 1) d (leaves d image)))) other;
      }

-- the same of the slots in their order
pub fresh_moments : {M C D : Type 0} (law : Rules M C) (f : D → Option (List Crash)) (m : M) (a b current other : D) (in_b : Bool) → law.origin m ≡ m → Has [] (f a) → Has [] (f b)
    → Goes (Leaves IsBegun) (f a) (f current) → other ≡ b → in_b ≡ false → AnyMoment (Loads law m 0) (f a) (f (slot_a in_b current other)) (f b) (f (slot_b in_b current other))
fresh_moments law f m a b current other in_b fresh has_a has_b going same first =
    let P : Bool → Type 0 = λ i. AnyMoment (Loads law m 0) (f a) (f (slot_a i current other)) (f b) (f (slot_b i current other)) in
    subst P (sym first) (any_might (Loads law m 0) (f a) (f current) (f b) (f other) (fresh_crash law m (f a) (f current) (f b) (f other) fresh has_a has_b going (ap f same)))

pub none_of : (b : Option (List Crash)) → Has [] b → Now (Leaves IsNone) b
none_of b has =
    now_map (λ s. s ≡ still []) (Leaves IsNone) b
    (λ s e. λ c image. (let P : Crash → Type 0 = λ t. IsImage t c in let Q : List ℕ → Type 0 = λ l. IsNone l in subst Q (sym (only_still [] c (subst P e image))) empty_none)) has

pub has_still : (a : Option (List Crash)) → Has [] a → Now IsStill a
has_still a has = now_map (λ s. s ≡ still []) IsStill a (λ s e. (let P : Crash → Type 0 = λ t. t ≡ still t.seen in subst P (sym e) refl)) has

pub now_from : (P : Crash → Type 0) (a b : Option (List Crash)) → b ≡ a → Now P a → Now P b
now_from P a b is now = let R : Option (List Crash) → Type 0 = λ o. Now P o in subst R (sym is) now

pub goes_from : (P : Crash → Type 0) (a b c : Option (List Crash)) → b ≡ a → Goes P b c → Goes P a c
goes_from P a b c is going = let R : Option (List Crash) → Type 0 = λ o. Goes P o c in subst R is going
