use Rattle.script_engine.proofs.Puller.{database_at, name_there}
use Rattle.script_engine.proofs.engine.Engine.database.Goals as goal

pub name-requires : goal.name-requires
name-requires c = let (s, stands) = c.requires.scene in name_there c.args.self.now s c.args.at stands c.requires.within

pub returns : goal.returns
returns c = let (s, stands) = c.requires.scene in database_at c.args.self.now s c.args.at c.name.result.now stands c.name.ensures
