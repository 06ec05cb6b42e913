-- What steps are called, and of what they are.
use Rattle.std.specs.Prelude.{ℕ, List, codes}
use Rattle.name_rules.specs.declared.step.Step.{Step}
use Rattle.name_rules.specs.declared.step.Step.TheVariants.{Park, Erase, Make, Rewrite, Place, Unstage, Skip}
use Rattle.name_rules.specs.declared.step.Subject.{Subject}
use Rattle.name_rules.specs.declared.step.Subject.TheVariants as of

-- its word
abbrev pub step_word : Step → List ℕ
step_word (Park uid) = codes "park"
step_word (Erase uid) = codes "erase"
step_word (Make uid) = codes "make"
step_word (Rewrite uid) = codes "rewrite"
step_word (Place uid) = codes "place"
step_word (Unstage uid) = codes "unstage"
step_word (Skip usn) = codes "skip"

-- the file, or the USN of the journal record
abbrev pub subject_of : Step → Subject
subject_of (Park uid) = of.Uid uid
subject_of (Erase uid) = of.Uid uid
subject_of (Make uid) = of.Uid uid
subject_of (Rewrite uid) = of.Uid uid
subject_of (Place uid) = of.Uid uid
subject_of (Unstage uid) = of.Uid uid
subject_of (Skip usn) = of.Usn usn
