-- The list of a slot depends on its records and its first gate that isn't 1 alone.
use Rattle.std.proofs.Common.{◌≡◌, ℕ, ◌+◌, ◌-◌, ◌%◌, ◌^◌, Bool, true, false, List, [], ◌∷◌, ◌++◌, length, drop, take, map, refl, sym, ap, ◌∙◌, subst, append_assoc, Option, Some, None, inl, inr, get_or, if◌then◌else◌, ◌&&◌}
use Rattle.std.proofs.lemmas.List.{drop_at}
use Rattle.std.proofs.lemmas.List.Elements.{All-head, All-tail}
use Rattle.std.specs.Int.{from_le_bytes, w64}
use Rattle.std.specs.List.{All}
use Rattle.std.specs.Prelude.{MatchOption}
use Rattle.frs_base.specs.Machines.{Rules}
use Rattle.frs_journal.specs.Loads.{Loads, LoadsEither}
use Rattle.frs_journal.specs.Opens.{SameList}
use Rattle.frs_journal.specs.Reading.{IsValid}
use Rattle.frs_journal.specs.Slots.{Holds, IsList, IsLog, IsShort, framed, generation_of, has_magic, head, is_bad, is_marked, opened, serial_of, slot_a, slot_b, slot_front, taken, takes_b, wire}
use Rattle.frs_journal.proofs.Fronts.{front_good, front_marked, front_serial}
use Rattle.frs_journal.proofs.Records.{framed_same}

-- one slot has one list
pub one_list : (ps qs : List (List ℕ)) (x y : ℕ) (u v : List ℕ) → (x ≡ 1 → ⊥) → (y ≡ 1 → ⊥) → All IsShort ps → All IsShort qs
    → opened ps ++ x ∷ u ≡ opened qs ++ y ∷ v → ps ≡ qs
one_list [] [] x y u v cx cy sp sq is = refl
one_list [] (q ∷ qs) x y u v cx cy sp sq is = absurd (cx (ap (λ (l : List ℕ). get_or l 0 0) is))
one_list (p ∷ ps) [] x y u v cx cy sp sq is = absurd (cy (sym (ap (λ (l : List ℕ). get_or l 0 0) is)))
one_list (p ∷ ps) (q ∷ qs) x y u v cx cy sp sq is =
    let e : framed p ++ (opened ps ++ x ∷ u) ≡ framed q ++ (opened qs ++ y ∷ v) =
    sym (append_assoc (framed p) (opened ps) (x ∷ u)) ∙ ap (λ (l : List ℕ). drop 1 l) is ∙ append_assoc (framed q) (opened qs) (y ∷ v) in
    let same : p ≡ q = framed_same p q (opened ps ++ x ∷ u) (opened qs ++ y ∷ v) (All-head IsShort p ps sp) (All-head IsShort q qs sq) e in
    let f : opened ps ++ x ∷ u ≡ opened qs ++ y ∷ v =
    sym (drop_at (framed p) (opened ps ++ x ∷ u) (length (framed p)) refl) ∙ ap (λ (l : List ℕ). drop (length (framed p)) l) e
    ∙ drop_at (framed q) (opened qs ++ y ∷ v) (length (framed p)) (ap (λ (l : List ℕ). length (framed l)) (sym same)) in
    let tail : ps ≡ qs = one_list ps qs x y u v cx cy (All-tail IsShort p ps sp) (All-tail IsShort q qs sq) f in
    λ i. same i ∷ tail i

head_size : (generation serial : ℕ) → length (head generation serial) ≡ 25
unfolding head
head_size generation serial = refl

pub behind_head : (generation serial : ℕ) (ps : List (List ℕ)) (x : ℕ) (rest : List ℕ) → drop 25 (slot_front generation serial ps ++ x ∷ rest) ≡ opened ps ++ x ∷ rest
behind_head generation serial ps x rest =
    ap (λ (l : List ℕ). drop 25 l) (append_assoc (head generation serial) (opened ps) (x ∷ rest)) ∙ drop_at (head generation serial) (opened ps ++ x ∷ rest) 25 (head_size generation serial)

holds_same : (xs c : List ℕ) (ps : List (List ℕ)) → SameList xs c → Holds xs ps → Holds c ps
holds_same xs c ps s h =
    let e : opened ps ++ h.gate ∷ h.rest ≡ opened s.payloads ++ s.gate ∷ s.rest =
    sym (behind_head h.generation h.serial ps h.gate h.rest) ∙ ap (λ (l : List ℕ). drop 25 l) (sym h.bytes ∙ s.whole) ∙ behind_head s.generation s.first s.payloads s.gate s.rest in
    let same : ps ≡ s.payloads = one_list ps s.payloads h.gate s.gate h.rest s.rest h.closed s.closed h.short s.short e in
    let P : List (List ℕ) → Type 0 = λ l. Holds c l in
    subst P (sym same) (record { generation = s.generation; serial = s.first; gate = s.gate; rest = s.left; bytes = s.same; closed = s.closed; short = s.short })

generation_same : (xs c : List ℕ) → SameList xs c → generation_of xs ≡ generation_of c
generation_same xs c s =
    ap generation_of s.whole ∙ front_marked s.generation s.first s.payloads s.gate s.rest ∙ sym (front_marked s.generation s.first s.payloads s.gate s.left) ∙ ap generation_of (sym s.same)

list_same : (xs c : List ℕ) (ps : List (List ℕ)) → SameList xs c → IsList xs ps → IsList c ps
list_same xs c ps s list =
    let at : generation_of xs ≡ Some (wire s.generation) = ap generation_of s.whole ∙ front_marked s.generation s.first s.payloads s.gate s.rest in
    let at_c : generation_of c ≡ Some (wire s.generation) = ap generation_of s.same ∙ front_marked s.generation s.first s.payloads s.gate s.left in
    let P : Option ℕ → Type 0 = λ o. MatchOption o (ps ≡ []) (λ _. Holds xs ps) in
    let Q : Option ℕ → Type 0 = λ o. MatchOption o (ps ≡ []) (λ _. Holds c ps) in
    subst Q (sym at_c) (holds_same xs c ps s (subst P at list))

serial_same : (xs c : List ℕ) → SameList xs c → serial_of xs ≡ serial_of c
serial_same xs c s =
    ap serial_of s.whole ∙ front_serial s.generation s.first s.payloads s.gate s.rest ∙ sym (front_serial s.generation s.first s.payloads s.gate s.left) ∙ ap serial_of (sym s.same)

-- which of two is picked, where the first or the second has another list that is the same
first_picked : (t : Bool) (d xs c : List ℕ) (ps : List (List ℕ)) → (IsList xs ps → IsList c ps) → IsList (if t then d else xs) ps → IsList (if t then d else c) ps
first_picked true d xs c ps f h = h
first_picked false d xs c ps f h = f h

second_picked : (t : Bool) (d xs c : List ℕ) (ps : List (List ℕ)) → (IsList xs ps → IsList c ps) → IsList (if t then xs else d) ps → IsList (if t then c else d) ps
second_picked true d xs c ps f h = f h
second_picked false d xs c ps f h = h

first_serial : (t : Bool) (d xs c : List ℕ) → serial_of xs ≡ serial_of c → serial_of (if t then d else xs) ≡ serial_of (if t then d else c)
first_serial true d xs c e = refl
first_serial false d xs c e = e

second_serial : (t : Bool) (d xs c : List ℕ) → serial_of xs ≡ serial_of c → serial_of (if t then xs else d) ≡ serial_of (if t then c else d)
second_serial true d xs c e = e
second_serial false d xs c e = refl

good_same : (xs c : List ℕ) → SameList xs c → is_bad c ≡ false
good_same xs c s = ap is_bad s.same ∙ front_good s.generation s.first s.payloads s.gate s.left

log_same : (in_b : Bool) (xs c d : List ℕ) (ps : List (List ℕ)) → SameList xs c → IsLog (slot_a in_b xs d) (slot_b in_b xs d) ps → IsLog (slot_a in_b c d) (slot_b in_b c d) ps
log_same false xs c d ps s log =
    let P : Option ℕ → Type 0 = λ g. IsList (if takes_b g (generation_of d) then d else c) ps in
    record {
      good_a = good_same xs c s;
      good_b = log.good_b;
      list = subst P (generation_same xs c s) (first_picked (takes_b (generation_of xs) (generation_of d)) d xs c ps (list_same xs c ps s) log.list);
    }
log_same true xs c d ps s log =
    let P : Option ℕ → Type 0 = λ g. IsList (if takes_b (generation_of d) g then c else d) ps in
    record {
      good_a = log.good_a;
      good_b = good_same xs c s;
      list = subst P (generation_same xs c s) (second_picked (takes_b (generation_of d) (generation_of xs)) d xs c ps (list_same xs c ps s) log.list);
    }

taken_same : (in_b : Bool) (xs c d : List ℕ) → SameList xs c → serial_of (taken (slot_a in_b xs d) (slot_b in_b xs d)) ≡ serial_of (taken (slot_a in_b c d) (slot_b in_b c d))
taken_same false xs c d s =
    first_serial (takes_b (generation_of xs) (generation_of d)) d xs c (serial_same xs c s) ∙ ap (λ g. serial_of (if takes_b g (generation_of d) then d else c)) (generation_same xs c s)
taken_same true xs c d s =
    second_serial (takes_b (generation_of d) (generation_of xs)) d xs c (serial_same xs c s) ∙ ap (λ g. serial_of (if takes_b (generation_of d) g then c else d)) (generation_same xs c s)

module _ {M C : Type 0} (law : Rules M C) where
  loads_same : (m : M) (k : ℕ) (in_b : Bool) (xs c d : List ℕ) → SameList xs c → Loads law m k (slot_a in_b xs d) (slot_b in_b xs d) → Loads law m k (slot_a in_b c d) (slot_b in_b c d)
  loads_same m k in_b xs c d s l = record {
    commands = l.commands;
    mark = l.mark;
    saved = l.saved;
    marked = l.marked;
    enough = l.enough;
    known = l.known;
    log = log_same in_b xs c d (l.mark ++ map law.code l.commands) s l.log;
    runs = l.runs;
    count = l.count ∙ ap (λ n. (n + (length l.commands - l.saved)) % 2 ^ 64) (taken_same in_b xs c d s);
  }

  pub either_same : (m n : M) (k l : ℕ) (in_b : Bool) (xs c d : List ℕ) → SameList xs c → LoadsEither law m k n l (slot_a in_b xs d) (slot_b in_b xs d) → LoadsEither law m k n l (slot_a in_b c d) (slot_b in_b c d)
  either_same m n k l in_b xs c d s (inl h) = inl (loads_same m k in_b xs c d s h)
  either_same m n k l in_b xs c d s (inr h) = inr (loads_same n l in_b xs c d s h)

pub valid_of : (c : List ℕ) → (generation_of c ≡ None → ⊥) → IsValid c
unfolding generation_of
valid_of c some = by_test (is_marked c && has_magic c) some
  where
    by_test : (b : Bool) → ((if b then Some (from_le_bytes w64 (take 8 (drop 9 c))) else None) ≡ None → ⊥) → b ≡ true
    by_test true h = refl
    by_test false h = absurd (h refl)
