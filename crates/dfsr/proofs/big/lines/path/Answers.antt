use Rattle.std.proofs.Common.{◌≡◌, ◌∙◌, ◌++◌, ◌∷◌, [], codes, ap, sym, subst, arith}
use Rattle.std.specs.Prelude.{decimal}
use Rattle.std.proofs.lemmas.List.{take_all}
use Rattle.frs_base.specs.Names.{IsName}
use Rattle.frs_base.specs.NameErrors.{IsRefused}
use Rattle.script_lang.proofs.Paths.{component_is_name}
use Rattle.dfsr.proofs.Generated.{file_is_component}
use Rattle.dfsr.proofs.big.lines.path.Goals as goal

pub unreachable-requires : goal.unreachable-requires
unreachable-requires c =
    let name = component_is_name (codes "f" ++ decimal c.args.file) (file_is_component c.args.file c.requires) in
    let whole : c.loop-byte.units.items ≡ codes "f" ++ decimal c.args.file =
    c.loop-byte.invariant ∙ take_all c.loop-byte.byte-index c.as_bytes-byte-items.result.now (omega arith) ∙ c.as_bytes-byte-items.ensures.value ∙ c.in_ok-text.ensures.ok in
    let refused = subst (λ e. IsRefused e c.loop-byte.units.items) c.in-Err-NameBad.field-0-is c.in-Err-NameBad.ensures.refused in
    refused.0 (subst IsName (sym whole) name)

pub returns-in-Ok : goal.returns-in-Ok
returns-in-Ok c =
    let whole : c.loop-byte.units.items ≡ codes "f" ++ decimal c.args.file =
    c.loop-byte.invariant ∙ take_all c.loop-byte.byte-index c.as_bytes-byte-items.result.now (omega arith) ∙ c.as_bytes-byte-items.ensures.value ∙ c.in_ok-text.ensures.ok in
    let name : c.in-Ok.name ≡ codes "f" ++ decimal c.args.file = c.in-Ok.ensures.name ∙ whole in
    c.of.ensures ∙ c.in_ok-vec-in-Ok.ensures.items ∙ ap (λ n. n ∷ []) name
