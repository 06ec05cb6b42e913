use Rattle.std.proofs.Common.{◌≡◌, List, [], ◌∷◌, ◌++◌, ℕ, OnOk, subst}
use Rattle.std.specs.Int.{w16}
use Rattle.ndr_core.specs.Items.{number}
use Rattle.ndr_core.specs.Arrays.{appends_many}
use Rattle.ndr_core.proofs.Loops.{all_true, ends_string}
use Rattle.ndr_core.proofs.writer.Writer.put_string.Goals as goal

pub put_many-requires : goal.put_many-requires
put_many-requires c = all_true c.args.units.now

pub returns : goal.returns
returns c =
    subst (λ (start : List ℕ). OnOk c.put_u16.result (c.put_u16.new.self ≡ appends_many (number w16).appends start (c.args.units.now ++ 0 ∷ []))) c.in_ok-put_varying.ensures
    (ends_string c.put_u16.result c.put_varying.new.self c.put_many.new.out c.put_u16.new.self c.args.units.now c.in_ok-put_many.ensures c.put_u16.ensures)
