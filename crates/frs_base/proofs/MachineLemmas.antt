-- What follows from a machine's rules.
use Rattle.std.proofs.Common.{◌≡◌, [], sym, ◌∙◌, append-nil}
use Rattle.frs_base.specs.Machines.{Rules, Lawful}

-- commands with the same bytes are one
pub one_command : {S C : Type 0} (law : Rules S C) → Lawful law → (x y : C) → law.is_cmd x → law.is_cmd y → law.code x ≡ law.code y → x ≡ y
one_command law lawful x y known_x known_y same =
    (lawful.no_prefix x y [] known_x known_y (sym same ∙ sym (append-nil (law.code x)))).0
