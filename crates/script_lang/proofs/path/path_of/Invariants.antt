use Rattle.std.proofs.Common.{◌≡◌, true, map}
use Rattle.std.specs.List.{list_all}
use Rattle.script_lang.specs.Grammar.{is_component}
use Rattle.script_lang.proofs.path.path_of.Given as goal

-- the components so far are names
abbrev pub invariant-loop-part : goal.invariant-loop-part
invariant-loop-part l = record {
  can : (goal.iterator-loop-part).can_next l.part-iterator;
  finite : (goal.iterator-loop-part).is_finite l.part-iterator;
  names : l.names.items ≡ map (λ part. part.now) l.yielded;
  valid : list_all is_component l.names.items ≡ true;
}
