-- What the machine answers to an event, and what becomes of it.
use Rattle.std.specs.Prelude.{ℕ}
use Rattle.folder_core.specs.declared.event.Event.{Event}
use Rattle.folder_core.specs.declared.event.Event.TheVariants.{Adopt, Consume, File, Finish, Install, Local, Vector}
use Rattle.folder_core.specs.declared.reply.Reply.{Reply}
use Rattle.folder_core.specs.Machine.{Machine}
use Rattle.folder_core.specs.Local.{AnswersLocal}
use Rattle.folder_core.specs.Consume.{AnswersConsume}
use Rattle.folder_core.specs.Serve.{AnswersFile, AnswersVector}
use Rattle.folder_core.specs.Adopt.{AnswersAdopt}
use Rattle.folder_core.specs.Finish.{AnswersFinish}
use Rattle.folder_core.specs.Install.{AnswersInstall}

-- the event, whose entry is at this place, is answered so and leads from one machine to the other
abbrev pub Answers : ℕ → Machine → Event → Reply → Machine → Type 0
Answers at old (Local operation) reply new = AnswersLocal operation old reply new
Answers at old (Consume moment) reply new = AnswersConsume moment old reply new
Answers at old Vector reply new = AnswersVector at old reply new
Answers at old (File uid) reply new = AnswersFile uid at old reply new
Answers at old (Adopt from place u form) reply new = AnswersAdopt u form old reply new
Answers at old (Finish from place sent seen) reply new = AnswersFinish sent seen old reply new
Answers at old Install reply new = AnswersInstall old reply new
