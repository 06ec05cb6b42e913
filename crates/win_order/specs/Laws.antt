-- To win is a strict order that decides.
use Rattle.std.specs.Prelude.{◌≡◌, ◌≢◌, ◌⊎◌}
use Rattle.win_order.specs.Order.{Beats}
use Rattle.win_order.specs.declared.update.Update.{Update}

-- no update beats itself
abbrev pub NoneBeatsItself : Type 0
NoneBeatsItself = (u : Update) → ¬ Beats u u

-- what beats a winner beats what that one beat
abbrev pub BeatsAlong : Type 0
BeatsAlong = (u v w : Update) → Beats u v → Beats v w → Beats u w

-- of two updates of one file by different versions exactly one beats the other
abbrev pub OneOfTwoBeats : Type 0
OneOfTwoBeats = (u v : Update) → u.uid ≡ v.uid → u.gvsn ≢ v.gvsn → (Beats u v ⊎ Beats v u) × (Beats u v → ¬ Beats v u)
