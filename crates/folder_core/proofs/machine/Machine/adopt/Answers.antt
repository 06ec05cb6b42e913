use Rattle.std.proofs.Common.{◌≡◌, ◌∙◌, ℕ, List, Option, None, Result, Ok, subst, sym, rules}
use Rattle.std.specs.Prelude.{IfOk, MatchOption, MatchResult}
use Rattle.std.proofs.lemmas.Result.{IfOk-weaker}
use Rattle.win_order.specs.declared.update.Update.{Update}
use Rattle.record_db.specs.declared.command.BookCmd.TheVariants as cmd
use Rattle.folder_core.specs.declared.refusal.Refusal.{Refusal}
use Rattle.folder_core.specs.declared.reply.Reply.{Reply}
use Rattle.folder_core.specs.declared.reply.Reply.TheVariants.{Adopted}
use Rattle.folder_core.specs.Adopt.{AnswersAdopt, AnswersForm, Stages, adopt_refusal}
use Rattle.folder_core.specs.Books.{Takes}
use Rattle.folder_core.specs.Machine.{Machine, Refuses}
use Rattle.folder_core.specs.Sound.{MayBeStaged}
use Rattle.folder_core.proofs.Consuming.{may_adopt, staged_of}
use Rattle.folder_core.proofs.machine.Machine.adopt.Goals as goal

-- an update that isn't refused, with what is staged with it
adopted : (old : Machine) (u : Update) (form given : Option (List ℕ)) (staged : Result (Option (List ℕ)) Refusal) → adopt_refusal old u ≡ None → Stages u form staged → staged ≡ Ok given
    → (reply : Reply) (new : Machine) → Takes (cmd.Adopt u given) Adopted old reply new → AnswersAdopt u form old reply new
adopted old u form given staged none stages is reply new takes =
    subst (λ r. MatchOption r (AnswersForm u form old reply new) (λ why. Refuses why old reply new)) (sym none)
    (staged, stages, subst (λ s. MatchResult s (λ g. Takes (cmd.Adopt u g) Adopted old reply new) (λ why. Refuses why old reply new)) (sym is) takes)

-- what is staged is spelled
spelled_at : (staged : Result (Option (List ℕ)) Refusal) (given : Option (List ℕ)) → IfOk staged MayBeStaged → staged ≡ Ok given → MayBeStaged given
spelled_at staged given spelled is = subst (λ r. IfOk r MayBeStaged) is spelled

pub widen-requires-clause-may : goal.widen-requires-clause-may
widen-requires-clause-may c =
    may_adopt c.args.self.now c.args.update c.in-Ok.form c.adopt_refusal.ensures.sound c.fits.ensures (sym c.adopt_refusal.ensures.refusal ∙ c.in_default.is)
    (staged_of c.args.update c.args.form c.in_ok-staged.staged c.in-Ok.form c.in_ok-staged.ensures.stages c.in-Ok.is (spelled_at c.in_ok-staged.staged c.in-Ok.form c.in_ok-staged.ensures.spelled c.in-Ok.is))

pub returns-in-Err-clause-answers : goal.returns-in-Err-clause-answers
returns-in-Err-clause-answers c =
    rw (sym c.adopt_refusal.ensures.refusal ∙ c.in_default.is) (c.in_ok-staged.staged, c.in_ok-staged.ensures.stages, rw c.in-Err.is (search rules))

pub returns-in-Ok-clause-answers : goal.returns-in-Ok-clause-answers
returns-in-Ok-clause-answers c =
    let u = c.args.update in
    let form = c.args.form in
    let old = c.args.self.now in
    let new = c.widen.new.self in
    IfOk-weaker c.widen.result (λ answer. Takes (cmd.Adopt u c.in-Ok.form) Adopted old answer.reply new) (λ answer. AnswersAdopt u form old answer.reply new)
    (λ answer takes. adopted old u form c.in-Ok.form c.in_ok-staged.staged (sym c.adopt_refusal.ensures.refusal ∙ c.in_default.is) c.in_ok-staged.ensures.stages c.in-Ok.is answer.reply new takes) c.widen.ensures.answers
