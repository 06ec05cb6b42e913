-- Records by their births.
use Rattle.std.specs.Prelude.{◌≡◌, ◌+◌, ℕ, List, Some, slice_get}
use Rattle.win_order.specs.declared.update.Update.{Update}

-- the births and the versions are 9, 10 and so on
abbrev pub AreBornInOrder : List Update → Type 0
AreBornInOrder records = (n : ℕ) (u : Update) → slice_get records n ≡ Some u → (u.uid.version ≡ 9 + n) × (u.gvsn.version ≡ 9 + n)
