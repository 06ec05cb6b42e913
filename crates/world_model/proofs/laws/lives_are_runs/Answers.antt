use Rattle.world_model.proofs.Deeds.{all_counted_in_lives, lives_are_runs, runs_are_lives}
use Rattle.world_model.proofs.laws.lives_are_runs.Goals as goal

pub returns-clause-without : goal.returns-clause-without
returns-clause-without c = lives_are_runs

pub returns-clause-with_them : goal.returns-clause-with_them
returns-clause-with_them c = runs_are_lives

pub returns-clause-counted : goal.returns-clause-counted
returns-clause-counted c = all_counted_in_lives
