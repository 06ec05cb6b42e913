use Rattle.std.proofs.Common.{Bool, ◌≡◌, ◌∙◌, sym, subst, true, Some, None}
use Rattle.frs_base.specs.declared.kind.Kind.TheVariants.{Directory}
use Rattle.vol_state.specs.declared.command.VolCmd.{VolCmd}
use Rattle.vol_state.specs.declared.command.VolCmd.TheVariants.{PutNew, PutOver, Mkdir, Move, Remove, Park, Erase, Make, Rewrite, Place}
use Rattle.vol_state.specs.State.{State}
use Rattle.vol_state.specs.Numbers.{has_numbers}
use Rattle.vol_state.specs.Effects.{added, new_object, effect}
use Rattle.vol_state.specs.Conditions.{is_allowed}
use Rattle.vol_state.specs.Valid.{IsVolume}
use Rattle.vol_state.proofs.Volumes.{effect_keeps}
use Rattle.vol_state.proofs.volume.Volume.take.Goals as goal

-- what the command turned out to be leaves a volume
kept : (cmd made : VolCmd) (v : State) (numbers allowed : Bool) → cmd ≡ made → IsVolume v → numbers ≡ has_numbers cmd v → numbers ≡ true → allowed ≡ is_allowed cmd v → allowed ≡ true → IsVolume (effect made v)
kept cmd made v numbers allowed is h n has a may = subst (λ x. IsVolume (effect x v)) is (effect_keeps cmd v h (sym n ∙ has) (sym a ∙ may))

pub add-requires-clause-valid : goal.add-requires-clause-valid
add-requires-clause-valid c = kept c.into_parts-cmd.result.0 (PutNew c.in-PutNew.parent c.in-PutNew.name c.in-PutNew.bytes) c.args.self.now.state c.has_numbers.result c.is_allowed.result c.in-PutNew.is c.is_allowed.ensures.valid c.has_numbers.ensures c.if-not-has_numbers.false c.is_allowed.ensures.allowed c.if-not-is_allowed.false

pub fill_object-requires-clause-valid : goal.fill_object-requires-clause-valid
fill_object-requires-clause-valid c = kept c.into_parts-cmd.result.0 (PutOver c.in-PutOver.fid c.in-PutOver.bytes) c.args.self.now.state c.has_numbers.result c.is_allowed.result c.in-PutOver.is c.is_allowed.ensures.valid c.has_numbers.ensures c.if-not-has_numbers.false c.is_allowed.ensures.allowed c.if-not-is_allowed.false

pub add-requires-in-Mkdir-clause-valid : goal.add-requires-in-Mkdir-clause-valid
add-requires-in-Mkdir-clause-valid c =
    subst (λ b. IsVolume (added 3 true (new_object c.args.self.now.state (Some (c.in-Mkdir.parent, c.in-Mkdir.name)) Directory b None true) c.args.self.now.state)) (sym c.into_parts-cmd.ensures.empty)
    (kept c.into_parts-cmd.result.0 (Mkdir c.in-Mkdir.parent c.in-Mkdir.name) c.args.self.now.state c.has_numbers.result c.is_allowed.result c.in-Mkdir.is c.is_allowed.ensures.valid c.has_numbers.ensures c.if-not-has_numbers.false c.is_allowed.ensures.allowed c.if-not-is_allowed.false)

pub place_object-requires-clause-valid : goal.place_object-requires-clause-valid
place_object-requires-clause-valid c = kept c.into_parts-cmd.result.0 (Move c.in-Move.fid c.in-Move.parent c.in-Move.name) c.args.self.now.state c.has_numbers.result c.is_allowed.result c.in-Move.is c.is_allowed.ensures.valid c.has_numbers.ensures c.if-not-has_numbers.false c.is_allowed.ensures.allowed c.if-not-is_allowed.false

pub take_object-requires-clause-valid : goal.take_object-requires-clause-valid
take_object-requires-clause-valid c = kept c.into_parts-cmd.result.0 (Remove c.in-Remove.fid) c.args.self.now.state c.has_numbers.result c.is_allowed.result c.in-Remove.is c.is_allowed.ensures.valid c.has_numbers.ensures c.if-not-has_numbers.false c.is_allowed.ensures.allowed c.if-not-is_allowed.false

pub place_object-requires-in-Park-clause-valid : goal.place_object-requires-in-Park-clause-valid
place_object-requires-in-Park-clause-valid c = kept c.into_parts-cmd.result.0 (Park c.in-Park.fid) c.args.self.now.state c.has_numbers.result c.is_allowed.result c.in-Park.is c.is_allowed.ensures.valid c.has_numbers.ensures c.if-not-has_numbers.false c.is_allowed.ensures.allowed c.if-not-is_allowed.false

pub take_object-requires-in-Erase-clause-valid : goal.take_object-requires-in-Erase-clause-valid
take_object-requires-in-Erase-clause-valid c = kept c.into_parts-cmd.result.0 (Erase c.in-Erase.fid) c.args.self.now.state c.has_numbers.result c.is_allowed.result c.in-Erase.is c.is_allowed.ensures.valid c.has_numbers.ensures c.if-not-has_numbers.false c.is_allowed.ensures.allowed c.if-not-is_allowed.false

pub add-requires-in-Make-clause-valid : goal.add-requires-in-Make-clause-valid
add-requires-in-Make-clause-valid c = kept c.into_parts-cmd.result.0 (Make c.in-Make.uid c.in-Make.kind c.in-Make.bytes) c.args.self.now.state c.has_numbers.result c.is_allowed.result c.in-Make.is c.is_allowed.ensures.valid c.has_numbers.ensures c.if-not-has_numbers.false c.is_allowed.ensures.allowed c.if-not-is_allowed.false

pub fill_object-requires-in-Rewrite-clause-valid : goal.fill_object-requires-in-Rewrite-clause-valid
fill_object-requires-in-Rewrite-clause-valid c = kept c.into_parts-cmd.result.0 (Rewrite c.in-Rewrite.fid c.in-Rewrite.bytes) c.args.self.now.state c.has_numbers.result c.is_allowed.result c.in-Rewrite.is c.is_allowed.ensures.valid c.has_numbers.ensures c.if-not-has_numbers.false c.is_allowed.ensures.allowed c.if-not-is_allowed.false

pub place_object-requires-in-Place-clause-valid : goal.place_object-requires-in-Place-clause-valid
place_object-requires-in-Place-clause-valid c = kept c.into_parts-cmd.result.0 (Place c.in-Place.fid c.in-Place.parent c.in-Place.name) c.args.self.now.state c.has_numbers.result c.is_allowed.result c.in-Place.is c.is_allowed.ensures.valid c.has_numbers.ensures c.if-not-has_numbers.false c.is_allowed.ensures.allowed c.if-not-is_allowed.false
