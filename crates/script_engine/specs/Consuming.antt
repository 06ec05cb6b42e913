-- What comes of consuming a member's journal.
use Rattle.std.specs.Prelude.{◌≡◌, ◌⊎◌, ℕ, List, [], ◌∷◌, Option, Some, None}
use Rattle.win_order.specs.declared.update.Update.{Update}
use Rattle.record_db.specs.Records.{Versions, plus}
use Rattle.world_model.specs.World.{World}
use Rattle.world_model.specs.Events.{Records, consumes}
use Rattle.script_engine.specs.declared.consumed.Consumed.{Consumed}
use Rattle.script_engine.specs.declared.consumed.Consumed.TheVariants.{Made, Skipped}
use Rattle.script_engine.specs.declared.refusal.Refusal.{Refusal}
use Rattle.script_engine.specs.declared.refusal.Refusal.TheVariants.{VectorFull}
use Rattle.script_engine.specs.Widening.{Exceeds, Fits}

-- no record is left
abbrev pub IsAtEnd : World → ℕ → Type 0
IsAtEnd w d = (w.at d).volume.entry (w.at d).consumed ≡ None

-- what the member covers once the next record is consumed
abbrev pub widened : World → ℕ → Versions
widened w d = plus (w.at d).known (record { db = d; version = (w.at d).consumed })

-- the next record is consumed at a moment
abbrev pub ConsumesOne : World → ℕ → ℕ → Consumed → World → Type 0
ConsumesOne w d moment (Made usn) new = (usn ≡ (w.at d).consumed) × Fits (widened w d) × (u : Update) × Records w d moment (Some u) × (new ≡ consumes w d (Some u))
ConsumesOne w d moment (Skipped usn) new = (usn ≡ (w.at d).consumed) × Fits (widened w d) × Records w d moment None × (new ≡ consumes w d None)

-- the next record is there, and can't be consumed, since the vector would have so many intervals
abbrev pub IsTooWide : World → ℕ → ℕ → ℕ → Type 0
IsTooWide w d moment count = (made : Option Update) × Records w d moment made × Exceeds (widened w d) count

-- records are consumed until none is left, or one is refused
abbrev pub ConsumesAll : World → ℕ → ℕ → List Consumed → Option Refusal → World → Type 0
ConsumesAll w d moment [] why new =
    (IsAtEnd w d × (why ≡ None) × (new ≡ w))
    ⊎ ((count : ℕ) × IsTooWide w d moment count × (why ≡ Some (VectorFull count)) × (new ≡ w))
ConsumesAll w d moment (first ∷ rest) why new = (mid : World) × ConsumesOne w d moment first mid × ConsumesAll mid d moment rest why new

-- the next record is consumed, or is refused, or there is none
abbrev pub ConsumesNext : World → ℕ → ℕ → List Consumed → Option Refusal → World → Type 0
ConsumesNext w d moment [] None new = IsAtEnd w d × (new ≡ w)
ConsumesNext w d moment [] (Some why) new = (count : ℕ) × IsTooWide w d moment count × (why ≡ VectorFull count) × (new ≡ w)
ConsumesNext w d moment (c ∷ []) None new = ConsumesOne w d moment c new
ConsumesNext w d moment (c ∷ []) (Some why) new = ⊥
ConsumesNext w d moment (c ∷ more ∷ rest) why new = ⊥
