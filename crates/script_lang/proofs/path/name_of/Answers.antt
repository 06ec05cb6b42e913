use Rattle.std.proofs.Common.{◌≡◌, ◌∙◌, length, ap, sym, subst, arith}
use Rattle.std.proofs.lemmas.List.{take_all}
use Rattle.frs_base.specs.Names.{IsName}
use Rattle.frs_base.specs.NameErrors.{IsRefused}
use Rattle.script_lang.proofs.Paths.{component_is_name}
use Rattle.script_lang.proofs.path.name_of.Goals as goal

pub unreachable-requires : goal.unreachable-requires
unreachable-requires c =
    let name = component_is_name c.args.part.now c.requires in
    let whole = c.loop-byte.invariant ∙ take_all c.loop-byte.byte-index c.args.part.now (omega (arith, c.loop-byte-test.false, ap length c.as_bytes-byte-items.ensures.value)) in
    let refused = subst (λ e. IsRefused e c.loop-byte.units.items) c.in-Err-NameBad.field-0-is c.in-Err-NameBad.ensures.refused in
    refused.0 (subst IsName (sym whole) name)
