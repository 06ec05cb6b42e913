-- Laws of the machine of a member.
use Rattle.std.specs.Prelude.{◌≡◌, ◌<◌, ◌+◌, ◌^◌, ℕ, true, List, [], ◌∷◌, Option, Some, length}
use Rattle.frs_base.specs.declared.version.Uid.{Uid}
use Rattle.marshal_form.specs.Local.{IsLocalForm}
use Rattle.win_order.specs.declared.update.Update.{Update}
use Rattle.name_rules.specs.Tree.{is_file}
use Rattle.pinned_pages.specs.declared.answer.FileAnswer.TheVariants.{Found}
use Rattle.folder_core.specs.declared.event.Event.{Event}
use Rattle.folder_core.specs.declared.reply.Reply.{Reply}
use Rattle.folder_core.specs.Machine.{Machine}
use Rattle.folder_core.specs.Notes.{form_sum}
use Rattle.folder_core.specs.Serve.{file_answer}
use Rattle.folder_core.specs.Answers.{Answers}
use Rattle.folder_core.specs.Sound.{IsSound}

-- an event has one answer, and leads to one machine
abbrev pub AnswersAreOne : Type 0
AnswersAreOne = (at : ℕ) (old : Machine) (event : Event) (a b : Reply) (x y : Machine) → IsSound old → Answers at old event a x → Answers at old event b y → (a ≡ b) × (x ≡ y)

-- the events, from this place on, are answered so and lead from one machine to the other, over sound ones
abbrev pub Runs : ℕ → Machine → List Event → List Reply → Machine → Type 0
Runs at old [] [] new = new ≡ old
Runs at old [] (r ∷ rs) new = ⊥
Runs at old (e ∷ es) [] new = ⊥
Runs at old (e ∷ es) (r ∷ rs) new = (mid : Machine) × IsSound old × Answers at old e r mid × Runs (at + 1) mid es rs new

-- so a run of events has one list of answers, and leads to one machine
abbrev pub RunsAreOne : Type 0
RunsAreOne = (at : ℕ) (old : Machine) (events : List Event) (a b : List Reply) (x y : Machine) → Runs at old events a x → Runs at old events b y → (a ≡ b) × (x ≡ y)

-- a present file is given with a form that has its record's hash, and is one of a local file
abbrev pub FilesHaveForms : Type 0
FilesHaveForms = (at place : ℕ) (m : Machine) (uid : Uid) (u : Update) (body : Option (List ℕ)) → IsSound m → file_answer at m uid ≡ Found place u body → is_file u ≡ true
    → (form : List ℕ) × (body ≡ Some form) × (form_sum form ≡ u.hash) × (length form < 2 ^ 64 → (contents : List ℕ) × IsLocalForm form contents)
