-- Slots and the records in them.
use Rattle.std.proofs.Common.{◌≡◌, ◌≤◌, ◌⊎◌, ℕ, zero, suc, ◌+◌, Bool, true, false, List, [], ◌∷◌, ◌++◌, length, refl, sym, ap, ◌∙◌, subst, arith, inl, inr, append_assoc, append-nil, Option, Some, None, nat_le, ◌&&◌, if◌then◌else◌}
use Rattle.std.specs.List.{All}
use Rattle.std.specs.Prelude.{MatchOption}
use Rattle.std.proofs.lemmas.Bool.{le-leb}
use Rattle.frs_journal.specs.Slots.{head, framed, opened, slot_front, Holds, generation_of, serial_at, serial_by, serial_of, wire, is_bad, takes_b, taken, IsList, IsLog, slot_a, slot_b, Yields, IsShort}

pub opened_more : (ps : List (List ℕ)) (p : List ℕ) → opened (ps ++ p ∷ []) ≡ opened ps ++ 1 ∷ framed p
opened_more [] p = ap (λ (l : List ℕ). 1 ∷ l) (append-nil (framed p))
opened_more (q ∷ ps) p = ap (λ (l : List ℕ). 1 ∷ (framed q ++ l)) (opened_more ps p) ∙ ap (λ (l : List ℕ). 1 ∷ l) (sym (append_assoc (framed q) (opened ps) (1 ∷ framed p)))

pub front_more : (generation serial : ℕ) (ps : List (List ℕ)) (p : List ℕ) → slot_front generation serial (ps ++ p ∷ []) ≡ slot_front generation serial ps ++ 1 ∷ framed p
front_more generation serial ps p =
    ap (λ (l : List ℕ). head generation serial ++ l) (opened_more ps p) ∙ sym (append_assoc (head generation serial) (opened ps) (1 ∷ framed p))

long_enough : (n : ℕ) → 26 ≤ n → nat_le 26 n ≡ true
long_enough n le = le-leb 26 n le

pub marked : (generation serial : ℕ) (x : ℕ) (rest : List ℕ) → generation_of (head generation serial ++ x ∷ rest) ≡ Some (wire generation)
unfolding head generation_of wire
marked generation serial x rest =
    ap (λ b. if (b && true) && true then Some (wire generation) else None) (long_enough (length (head generation serial ++ x ∷ rest)) (omega arith))

pub good : (generation serial : ℕ) (x : ℕ) (rest : List ℕ) → is_bad (head generation serial ++ x ∷ rest) ≡ false
unfolding head is_bad
good generation serial x rest = ap (λ b. (b && true) && false) (long_enough (length (head generation serial ++ x ∷ rest)) (omega arith))

-- the same behind records
front_tail : (generation serial : ℕ) (ps : List (List ℕ)) (x : ℕ) (rest : List ℕ) → (y : ℕ) × (more : List ℕ) × (slot_front generation serial ps ++ x ∷ rest ≡ head generation serial ++ y ∷ more)
front_tail generation serial [] x rest = (x, rest, append_assoc (head generation serial) [] (x ∷ rest))
front_tail generation serial (p ∷ ps) x rest = (1, (framed p ++ opened ps) ++ x ∷ rest, append_assoc (head generation serial) (opened (p ∷ ps)) (x ∷ rest))

pub front_marked : (generation serial : ℕ) (ps : List (List ℕ)) (x : ℕ) (rest : List ℕ) → generation_of (slot_front generation serial ps ++ x ∷ rest) ≡ Some (wire generation)
front_marked generation serial ps x rest = let t = front_tail generation serial ps x rest in ap generation_of t.2 ∙ marked generation serial t.0 t.1

serial_in : (generation serial : ℕ) (x : ℕ) (rest : List ℕ) → serial_at (head generation serial ++ x ∷ rest) ≡ wire serial
unfolding head serial_at wire
serial_in generation serial x rest = refl

pub front_serial_at : (generation serial : ℕ) (ps : List (List ℕ)) (x : ℕ) (rest : List ℕ) → serial_at (slot_front generation serial ps ++ x ∷ rest) ≡ wire serial
front_serial_at generation serial ps x rest = let t = front_tail generation serial ps x rest in ap serial_at t.2 ∙ serial_in generation serial t.0 t.1

pub front_serial : (generation serial : ℕ) (ps : List (List ℕ)) (x : ℕ) (rest : List ℕ) → serial_of (slot_front generation serial ps ++ x ∷ rest) ≡ wire serial
front_serial generation serial ps x rest =
    ap (λ (o : Option ℕ). serial_by o (serial_at (slot_front generation serial ps ++ x ∷ rest))) (front_marked generation serial ps x rest) ∙ front_serial_at generation serial ps x rest

pub wire_0 : wire 0 ≡ 0
unfolding wire
wire_0 = refl

pub front_good : (generation serial : ℕ) (ps : List (List ℕ)) (x : ℕ) (rest : List ℕ) → is_bad (slot_front generation serial ps ++ x ∷ rest) ≡ false
front_good generation serial ps x rest = let t = front_tail generation serial ps x rest in ap is_bad t.2 ∙ good generation serial t.0 t.1

-- what a load takes
taken_is : (in_b : Bool) (c d : List ℕ) (g : ℕ) → generation_of c ≡ Some g → Yields in_b (Some g) d → taken (slot_a in_b c d) (slot_b in_b c d) ≡ c
taken_is true c d g at yields = ap (λ b. if b then c else d) (ap (takes_b (generation_of d)) at ∙ yields.over)
taken_is false c d g at yields = ap (λ b. if b then d else c) (ap (λ o. takes_b o (generation_of d)) at ∙ yields.over)

pub serial_taken : (in_b : Bool) (c d : List ℕ) (g : ℕ) → generation_of c ≡ Some g → Yields in_b (Some g) d → serial_of (taken (slot_a in_b c d) (slot_b in_b c d)) ≡ serial_of c
serial_taken in_b c d g at yields = ap serial_of (taken_is in_b c d g at yields)

good_a_is : (in_b : Bool) (c d : List ℕ) → is_bad c ≡ false → is_bad d ≡ false → is_bad (slot_a in_b c d) ≡ false
good_a_is true c d h k = k
good_a_is false c d h k = h

good_b_is : (in_b : Bool) (c d : List ℕ) → is_bad c ≡ false → is_bad d ≡ false → is_bad (slot_b in_b c d) ≡ false
good_b_is true c d h k = h
good_b_is false c d h k = k

log_from : (in_b : Bool) (c d : List ℕ) (ps : List (List ℕ)) (g : ℕ) → is_bad c ≡ false → generation_of c ≡ Some g → Yields in_b (Some g) d → Holds c ps
    → IsLog (slot_a in_b c d) (slot_b in_b c d) ps
log_from in_b c d ps g fine at yields holds =
    let P : List ℕ → Type 0 = λ l. IsList l ps in
    let Q : Option ℕ → Type 0 = λ o. MatchOption o (ps ≡ []) (λ _. Holds c ps) in
    record {
      good_a = good_a_is in_b c d fine yields.good;
      good_b = good_b_is in_b c d fine yields.good;
      list = subst P (sym (taken_is in_b c d g at yields)) (subst Q (sym at) holds);
    }

-- a slot with records and then a gate that isn't open
pub log_of : (in_b : Bool) (generation serial : ℕ) (ps : List (List ℕ)) (x : ℕ) (rest c d : List ℕ) → c ≡ slot_front generation serial ps ++ x ∷ rest
    → (x ≡ 1 → ⊥) → All IsShort ps → Yields in_b (Some (wire generation)) d → IsLog (slot_a in_b c d) (slot_b in_b c d) ps
log_of in_b generation serial ps x rest c d is closed short yields =
    log_from in_b c d ps (wire generation) (ap is_bad is ∙ front_good generation serial ps x rest) (ap generation_of is ∙ front_marked generation serial ps x rest) yields
    (record { generation = generation; serial = serial; gate = x; rest = rest; bytes = is; closed = closed; short = short })

pub is_one : (n : ℕ) → (n ≡ 1) ⊎ (n ≡ 1 → ⊥)
is_one zero = inr (λ h. absurd (omega (arith, h)))
is_one (suc zero) = inl refl
is_one (suc (suc n)) = inr (λ h. absurd (omega (arith, h)))

pub length_framed : (p : List ℕ) → length (framed p) ≡ length p + 4
unfolding framed
length_framed p = omega arith
