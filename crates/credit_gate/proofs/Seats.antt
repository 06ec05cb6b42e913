-- A seat's places stay below the count of its gate's.
use Rattle.std.proofs.Common.{◌≡◌, ℕ, ◌<◌, Bool, true, false, sym, subst}
use Rattle.atomic_table.specs.Seated.{TableId}
use Rattle.credit_gate.specs.declared.view.View.{View}
use Rattle.credit_gate.specs.Rule.{Below}
use Rattle.credit_gate.specs.Steps.{IsEntered}
use Rattle.credit_gate.proofs.Totals.{below_more}

-- the same of an equal gate and an equal view
pub moved : (old new : TableId) (v w : View) → new ≡ old → w ≡ v → Below old.words v.places → Below new.words w.places
moved old new v w ids views below = subst (λ (id : TableId). Below id.words w.places) (sym ids) (subst (λ (u : View). Below old.words u.places) (sym views) below)

-- behind a try
pub below_tried : (b : Bool) (last place count : ℕ) (v w : View) → place < count → IsEntered b last place v w → Below count v.places → Below count w.places
below_tried true last place count v w lt is below = subst (λ (u : View). Below count u.places) (sym is) (below_more count place v.places lt below)
below_tried false last place count v w lt is below = subst (λ (u : View). Below count u.places) (sym is.0) below
