-- The next step of a member alone.
use Rattle.std.proofs.Common.{◌≡◌, ℕ, List, sym, ◌∙◌, subst}
use Rattle.frs_base.specs.Options.{In}
use Rattle.frs_base.specs.declared.version.Uid.{Uid}
use Rattle.win_order.specs.declared.update.Update.{Update}
use Rattle.name_rules.specs.Next.{IsNext}
use Rattle.name_rules.specs.declared.step.Step.TheVariants as install_step
use Rattle.name_rules.proofs.Showing.{shown_record}
use Rattle.world_model.specs.World.{Member}
use Rattle.world_model.specs.Folder.{AnswersOfMembersAreThere, FolderIsSound, MembersAnswerOnce, StepsOfMembersFit}
use Rattle.world_model.proofs.Deciding.{IsListed}
use Rattle.world_model.proofs.Folder.{one_of}
use Rattle.world_model.proofs.Next.{turn}
use Rattle.world_model.proofs.Pending.{has_answer, one_answer}
use Rattle.world_model.proofs.Progress.{HasHome, IsMember, home, step_fits}
use Rattle.world_model.proofs.Views.{HasSite, has_site}

module _ (own : ℕ) (x : Member) (records : List Update) (h : FolderIsSound own x records) where
  listed : IsListed (λ u. In u records)
  listed = record { list = records; to = λ u r. r; back = λ u r. r; one = one_of records h.rising }

  sites : (uid : Uid) → HasSite own x.volume uid
  sites uid = has_site own x.volume x.consumed uid h.member.places h.member.numbers

  alone : IsMember (λ u. In u records) (λ u. In u records) own x
  alone = record {
    one = one_of records h.rising;
    versions = h.versions.one_each;
    known = λ u r. r;
    no_root = h.no_root;
    sound = h.member;
  }

pub steps_fit : StepsOfMembersFit
steps_fit own x records h quiet step op next is gives =
    step_fits (λ u. In u records) (λ u. In u records) own x (alone own x records h) quiet step op
    (turn (λ u. In u records) (listed own x records h) own x.volume x.staged x.consumed (sites own x records h) step next) next.candidate is gives

-- the directory of a record that is to be placed is there
pub has_home : (own : ℕ) (x : Member) (records : List Update) → FolderIsSound own x records → (uid : Uid) (u : Update)
    → IsNext (λ v. In v records) own x.volume x.staged x.consumed (install_step.Place uid) → In u records → u.uid ≡ uid → HasHome (λ v. In v records) own x u
has_home own x records h uid u n r id =
    let (park, erase, make, rewrite) = turn (λ v. In v records) (listed own x records h) own x.volume x.staged x.consumed (sites own x records h) (install_step.Place uid) n in
    let (f, o, v, at, is, limbo, shown, same) = n.candidate in
    subst (HasHome (λ w. In w records) own x) (one_of records h.rising v u (shown_record (λ w. In w records) v shown) r (same ∙ sym id))
    (home (λ w. In w records) (λ w. In w records) own x v (alone own x records h) make shown)

pub answers_are_one : MembersAnswerOnce
answers_are_one own x records h a b p q = one_answer (λ u. In u records) own x.volume x.staged x.consumed h.member.numbers.entries a b p q

pub answers_there : AnswersOfMembersAreThere
answers_there own x records h = has_answer (λ u. In u records) (listed own x records h) own x.volume x.staged x.consumed h.member.places h.member.numbers h.begun
