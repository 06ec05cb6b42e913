use Rattle.std.proofs.Common.{ℕ, List, ap, subst, ◌∙◌}
use Rattle.std.specs.Int.{to_be_bytes, w128}
use Rattle.ndr_core.specs.Calls.{Writes}
use Rattle.ndr_core.specs.Identifiers.{uuid_item}
use Rattle.ndr_core.proofs.writer.Writer.put_guid.Goals as goal

pub returns : goal.returns
returns c =
    subst (λ (bytes : List ℕ). Writes uuid_item bytes c.put_uuid.result c.args.self.now c.put_uuid.new.self) (c.from_u128.ensures ∙ ap (to_be_bytes w128) c.number.ensures)
    c.put_uuid.ensures
