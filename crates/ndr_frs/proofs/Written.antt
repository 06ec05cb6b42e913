-- What several calls write, one behind the other.
use Rattle.std.proofs.Common.{◌≡◌, ◌∙◌, ℕ, List, Result, Ok, Err, OnOk, ap}
use Rattle.std.specs.declared.alloc.AllocError.{AllocError}
use Rattle.ndr_core.specs.Items.{◌⨾◌, Item}
use Rattle.ndr_core.specs.Calls.{Writes}

-- an item, and what is written behind it
pub behind : {A B : Type 0} (first : Item A) (second : Item B) (x : A) (y : B) (out mid new : List ℕ) (r : Result (Unit {0}) AllocError) → mid ≡ first.appends out x → OnOk r (new ≡ second.appends mid y) → OnOk r (new ≡ (first ⨾ second).appends out (x, y))
behind first second x y out mid new (Ok done) e rest = rest ∙ ap (λ (o : List ℕ). second.appends o y) e
behind first second x y out mid new (Err bad) e rest = tt

-- the last item
pub last : {A : Type 0} (item : Item A) (x : A) (out new : List ℕ) (r : Result (Unit {0}) AllocError) → Writes item x r out new → OnOk r (new ≡ item.appends out x)
last item x out new (Ok done) w = w
last item x out new (Err bad) w = tt
