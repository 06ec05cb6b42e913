-- What was read of two slots, and why they weren't opened.
use Rattle.std.proofs.Common.{◌≡◌, ℕ, List, refl, sym, ◌∙◌, inl, inr, subst, Option, Some, None}
use Rattle.frs_base.specs.Machines.{Rules}
use Rattle.frs_disk.specs.Crashes.{Crash, IsImage, Within, unchanged}
use Rattle.frs_disk.specs.Moments.{Now, Since, Stops, top}
use Rattle.frs_disk.proofs.Moments.{goes_map}
use Rattle.frs_journal.specs.Damage.{DamagedIn, IsDamaged, IsRead, ReadDamaged, TakenDamaged}
use Rattle.frs_journal.specs.Faults.{IsDeviceFault, IsUnread}
use Rattle.frs_journal.specs.Loads.{AnyMoment, NowLeaves}
use Rattle.frs_journal.specs.Opens.{OpenFault}
use Rattle.frs_journal.specs.Picks.{Picks}
use Rattle.frs_journal.specs.Rests.{Pairs}
use Rattle.frs_journal.specs.declared.choice.Pick.TheVariants as picked
use Rattle.frs_journal.specs.declared.faults.LoadWhy.{LoadWhy}
use Rattle.frs_journal.specs.declared.faults.LoadWhy.TheVariants as why
use Rattle.frs_journal.specs.declared.faults.Slot.{Slot}
use Rattle.frs_journal.specs.declared.faults.Slot.TheVariants.{A, B}
use Rattle.frs_journal.proofs.Commits.{any_might}

-- disks that were settled alone
pub settle_crash : (Q : List ℕ → List ℕ → Type 0) (a a' b b' : Option (List Crash)) → NowLeaves Q a b → Stops unchanged a a' → Stops unchanged b b' → AnyMoment Q a a' b b'
settle_crash Q None a' b b' now sa sb = λ x y mx my. absurd mx.1
settle_crash Q (Some ss) a' b b' now sa sb =
    any_might Q (Some ss) a' b b' (at (top ss) (λ c image. image), goes_map (Within (top ss)) P (Some ss) a' (λ s w. at s w.images) sa)
  where
    P : Crash → Type 0
    P s = Since (Pairs Q s) b b'

    at : (s : Crash) → ((c : List ℕ) → IsImage s c → IsImage (top ss) c) → P s
    at s each = by_other b now sb
      where
        by_other : (o : Option (List Crash)) → NowLeaves Q (Some ss) o → Stops unchanged o b' → Since (Pairs Q s) o b'
        by_other None n moves = (tt, moves)
        by_other (Some ts) n moves =
            (λ c d ic id. n c d (each c ic) id, goes_map (Within (top ts)) (Pairs Q s) (Some ts) b' (λ t w. λ c d ic id. n c d (each c ic) (w.images d id)) moves)

module _ {M C : Type 0} (law : Rules M C) where
  pub bad_damaged : (slot : Slot) (a b : List ℕ) → Picks a b (picked.Bad slot) → IsDamaged law a b slot 1
  bad_damaged A a b h = inl (h, refl)
  bad_damaged B a b h = inl (h.0, h.1, refl)

  pub open_damaged : (slot slot' : Slot) (bytes : List ℕ) (w : LoadWhy) (before now : ℕ) → slot ≡ slot' → OpenFault law slot bytes w before now → TakenDamaged law slot' bytes w
  open_damaged slot slot' bytes why.Memory before now e h = tt
  open_damaged slot slot' bytes (why.DiskFault count) before now e h = tt
  open_damaged slot slot' bytes (why.Damaged s offset) before now e h = (h.0 ∙ e, h.1)

  pub fresh_damaged : (a b : List ℕ) (w : LoadWhy) (before now : ℕ) → IsDeviceFault w before now → DamagedIn law a b w
  fresh_damaged a b why.Memory before now h = tt
  fresh_damaged a b (why.DiskFault count) before now h = tt
  fresh_damaged a b (why.Damaged s offset) before now h = absurd h

  pub taken_damaged_a : (a b : List ℕ) (w : LoadWhy) → Picks a b (picked.Taken A) → TakenDamaged law A a w → DamagedIn law a b w
  taken_damaged_a a b why.Memory p h = tt
  taken_damaged_a a b (why.DiskFault count) p h = tt
  taken_damaged_a a b (why.Damaged s offset) p h =
      let P : Slot → Type 0 = λ x. IsDamaged law a b x offset in subst P (sym h.0) (inr (p.0, p.1, p.2, p.3, h.1))

  pub taken_damaged_b : (a b : List ℕ) (w : LoadWhy) → Picks a b (picked.Taken B) → TakenDamaged law B b w → DamagedIn law a b w
  taken_damaged_b a b why.Memory p h = tt
  taken_damaged_b a b (why.DiskFault count) p h = tt
  taken_damaged_b a b (why.Damaged s offset) p h =
      let P : Slot → Type 0 = λ x. IsDamaged law a b x offset in subst P (sym h.0) (inr (p.0, p.1, p.3, h.1))

  pub read_damaged : (a b : List ℕ) (w : LoadWhy) (a_told b_told : Option (List Crash)) → Now (IsRead a) a_told → Now (IsRead b) b_told → DamagedIn law a b w → ReadDamaged law w a_told b_told
  read_damaged a b why.Memory a_told b_told ia ib h = tt
  read_damaged a b (why.DiskFault count) a_told b_told ia ib h = tt
  read_damaged a b (why.Damaged s offset) a_told b_told ia ib h = (a, b, ia, ib, h)

  pub unread_damaged : (w : LoadWhy) (a a' b b' : ℕ) (a_told b_told : Option (List Crash)) → IsUnread w a a' b b' → ReadDamaged law w a_told b_told
  unread_damaged why.Memory a a' b b' a_told b_told h = tt
  unread_damaged (why.DiskFault count) a a' b b' a_told b_told h = tt
  unread_damaged (why.Damaged s offset) a a' b b' a_told b_told h = absurd h
