use Rattle.std.proofs.Common.{append_assoc, rules}
use Rattle.script_engine.proofs.tree.file_text.Goals as goal

pub returns : goal.returns
returns c = search (rules, append_assoc)
