-- Two slots are damaged at one place at most.
use Rattle.std.proofs.Common.{◌≡◌, ◌⊎◌, ℕ, ◌+◌, List, [], ◌∷◌, ◌++◌, length, drop, map, refl, sym, ap, ◌∙◌, arith, get_or, inl, inr}
use Rattle.std.proofs.lemmas.Bool.{false≢true}
use Rattle.std.proofs.lemmas.List.{length-take-le}
use Rattle.std.proofs.lemmas.List.Elements.{All-tail}
use Rattle.std.specs.List.{All}
use Rattle.frs_base.specs.Machines.{Lawful, Rules}
use Rattle.frs_journal.specs.Damage.{IsBroken, IsDamaged}
use Rattle.frs_journal.specs.Reading.{CountsTooMany, LacksRecord, generation_at}
use Rattle.frs_journal.specs.Slots.{IsShort, opened, serial_at, slot_front}
use Rattle.frs_journal.specs.declared.faults.Slot.{Slot}
use Rattle.frs_journal.specs.declared.faults.Slot.TheVariants.{A, B}
use Rattle.frs_journal.proofs.Openings.{read_whole}
use Rattle.frs_journal.proofs.SameLists.{behind_head}
use Rattle.frs_journal.proofs.Undamaged.{Next, behind_first, first_next, lacks_next, lacks_none, lacks_whole, next_more}

-- two lists of records with an opened gate behind them, at the same bytes, are one, or one of them goes on where the other ends
two_open : (ps qs : List (List ℕ)) (rest more : List ℕ) → All IsShort ps → All IsShort qs → opened ps ++ 1 ∷ rest ≡ opened qs ++ 1 ∷ more → (ps ≡ qs) ⊎ (Next ps qs rest ⊎ Next qs ps more)
two_open [] [] rest more sp sq is = inl refl
two_open [] (q ∷ qs) rest more sp sq is = inr (inl (first_next q qs 1 rest more sq is))
two_open (p ∷ ps) [] rest more sp sq is = inr (inr (first_next p ps 1 more rest sp (sym is)))
two_open (p ∷ ps) (q ∷ qs) rest more sp sq is = behind on.0 (two_open ps qs rest more (All-tail IsShort p ps sp) (All-tail IsShort q qs sq) on.1)
  where
    on : (p ≡ q) × (opened ps ++ 1 ∷ rest ≡ opened qs ++ 1 ∷ more)
    on = behind_first p q ps qs (1 ∷ rest) (1 ∷ more) sp sq is

    behind : p ≡ q → (ps ≡ qs) ⊎ (Next ps qs rest ⊎ Next qs ps more) → (p ∷ ps ≡ q ∷ qs) ⊎ (Next (p ∷ ps) (q ∷ qs) rest ⊎ Next (q ∷ qs) (p ∷ ps) more)
    behind same (inl rest_same) = inl (λ i. same i ∷ rest_same i)
    behind same (inr (inl next)) = inr (inl (next_more p q ps qs rest same next))
    behind same (inr (inr next)) = inr (inr (next_more q p qs ps more (sym same) next))

module _ {M C : Type 0} (law : Rules M C) (lawful : Lawful law) where
  lacks_once : (bytes : List ℕ) (j k : ℕ) → LacksRecord law bytes j → LacksRecord law bytes k → j ≡ k
  lacks_once bytes j k l m =
      by_lists (two_open (l.before.mark ++ map law.code l.commands) (m.before.mark ++ map law.code m.commands) (drop (j + 1) bytes) (drop (k + 1) bytes) l.before.short m.before.short
      (sym (behind_head (generation_at bytes) (serial_at bytes) (l.before.mark ++ map law.code l.commands) 1 (drop (j + 1) bytes))
      ∙ ap (λ (x : List ℕ). drop 25 x) (sym (lacks_whole law lawful bytes j l) ∙ lacks_whole law lawful bytes k m)
      ∙ behind_head (generation_at bytes) (serial_at bytes) (m.before.mark ++ map law.code m.commands) 1 (drop (k + 1) bytes)))
    where
      by_lists : (l.before.mark ++ map law.code l.commands ≡ m.before.mark ++ map law.code m.commands)
          ⊎ (Next (l.before.mark ++ map law.code l.commands) (m.before.mark ++ map law.code m.commands) (drop (j + 1) bytes)
          ⊎ Next (m.before.mark ++ map law.code m.commands) (l.before.mark ++ map law.code l.commands) (drop (k + 1) bytes)) → j ≡ k
      by_lists (inl same) =
          omega (
            arith,
            ap length l.before.front,
            ap length m.before.front,
            length-take-le j bytes (omega (arith, l.before.inside)),
            length-take-le k bytes (omega (arith, m.before.inside)),
            ap (λ (ps : List (List ℕ)). length (slot_front (generation_at bytes) (serial_at bytes) ps)) same,
          )
      by_lists (inr (inl next)) = absurd (lacks_next law lawful bytes j m.before.mark m.saved m.commands l m.before.marked m.before.known next)
      by_lists (inr (inr next)) = absurd (lacks_next law lawful bytes k l.before.mark l.saved l.commands m l.before.marked l.before.known next)

  -- the records that a count exceeds are all that the slot has
  lacks_or_counts : (bytes : List ℕ) (at : ℕ) → LacksRecord law bytes at → CountsTooMany law bytes → ⊥
  lacks_or_counts bytes at l t =
      lacks_none law lawful bytes at t.before.mark t.saved t.commands l t.before.marked t.before.known (record {
        generation = generation_at bytes;
        serial = serial_at bytes;
        gate = get_or bytes t.at 0;
        rest = drop (t.at + 1) bytes;
        bytes = read_whole law bytes t.at t.saved t.commands t.before;
        closed = t.closed;
        short = t.before.short;
      })

  broken_once : (bytes : List ℕ) (j k : ℕ) → IsBroken law bytes j → IsBroken law bytes k → j ≡ k
  broken_once bytes j k (inl l) (inl m) = lacks_once bytes j k l m
  broken_once bytes j k (inl l) (inr (t, place)) = absurd (lacks_or_counts bytes j l t)
  broken_once bytes j k (inr (t, place)) (inl m) = absurd (lacks_or_counts bytes k m t)
  broken_once bytes j k (inr (t, place)) (inr (u, other)) = place ∙ sym other

  pub damaged_once : (a b : List ℕ) (s t : Slot) (k l : ℕ) → IsDamaged law a b s k → IsDamaged law a b t l → (s ≡ t) × (k ≡ l)
  damaged_once a b A A k l (inl (bad, place)) (inl (bad', other)) = (refl, place ∙ sym other)
  damaged_once a b A A k l (inl (bad, place)) (inr h) = absurd (false≢true (sym h.0 ∙ bad))
  damaged_once a b A A k l (inr h) (inl (bad, place)) = absurd (false≢true (sym h.0 ∙ bad))
  damaged_once a b A A k l (inr h) (inr i) = (refl, broken_once a k l h.4 i.4)
  damaged_once a b A B k l (inl (bad, place)) (inl h) = absurd (false≢true (sym h.0 ∙ bad))
  damaged_once a b A B k l (inl (bad, place)) (inr h) = absurd (false≢true (sym h.0 ∙ bad))
  damaged_once a b A B k l (inr h) (inl i) = absurd (false≢true (sym h.1 ∙ i.1))
  damaged_once a b A B k l (inr h) (inr i) = absurd (false≢true (sym h.3 ∙ i.2))
  damaged_once a b B A k l (inl h) (inl (bad, place)) = absurd (false≢true (sym h.0 ∙ bad))
  damaged_once a b B A k l (inr h) (inl (bad, place)) = absurd (false≢true (sym h.0 ∙ bad))
  damaged_once a b B A k l (inl h) (inr i) = absurd (false≢true (sym i.1 ∙ h.1))
  damaged_once a b B A k l (inr h) (inr i) = absurd (false≢true (sym i.3 ∙ h.2))
  damaged_once a b B B k l (inl h) (inl i) = (refl, h.2 ∙ sym i.2)
  damaged_once a b B B k l (inl h) (inr i) = absurd (false≢true (sym i.1 ∙ h.1))
  damaged_once a b B B k l (inr h) (inl i) = absurd (false≢true (sym h.1 ∙ i.1))
  damaged_once a b B B k l (inr h) (inr i) = (refl, broken_once b k l h.3 i.3)
