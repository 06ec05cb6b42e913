-- A local operation at a member's machine is one at the member.
use Rattle.std.proofs.Common.{◌≡◌, ◌+◌, ◌⊎◌, ℕ, List, refl, sym, ap, ◌∙◌, subst, arith, inl, inr, MatchResult, Result, Ok, Err}
use Rattle.frs_base.specs.declared.version.Uid.{Uid}
use Rattle.vol_state.specs.declared.command.VolCmd.{VolCmd}
use Rattle.vol_state.specs.declared.operation.LocalOp.{LocalOp}
use Rattle.vol_state.specs.declared.operation.Refused.{Refused}
use Rattle.vol_state.specs.Effects.{effect}
use Rattle.vol_state.specs.Maps.{Stands, write}
use Rattle.vol_state.specs.Paths.{resolve}
use Rattle.vol_state.specs.Tables.{IsLocal}
use Rattle.vol_state.specs.Ways.{Resolves}
use Rattle.vol_state.proofs.Standing.{stands_on}
use Rattle.vol_state.proofs.Tabling.{tables_are_tests}
use Rattle.vol_state.proofs.Permitted.{resolved_may}
use Rattle.vol_state.proofs.Resolved.{lists_resolve}
use Rattle.record_db.specs.Standing.{StandsFor}
use Rattle.record_db.specs.State.{form_of}
use Rattle.world_model.specs.World.{World, with_member}
use Rattle.world_model.specs.Events.{Step, Local as LocalEvent, operated}
use Rattle.world_model.proofs.Changing.{at_same}
use Rattle.folder_core.specs.declared.refusal.Refusal.TheVariants.{Local}
use Rattle.folder_core.specs.declared.reply.Reply.{Reply}
use Rattle.folder_core.specs.declared.reply.Reply.TheVariants.{Refused as Refuses, Usn}
use Rattle.folder_core.specs.Machine.{Machine, Refuses as IsRefusedBy}
use Rattle.folder_core.specs.Local.{AnswersLocal, Operates}
use Rattle.folder_core.specs.Sound.{IsSound as IsSoundMachine}
use Rattle.script_engine.specs.Sound.{IsSoundWorld}
use Rattle.script_engine.specs.Standing.{HoldsContents, MachineStands, local_in}
use Rattle.script_engine.proofs.Advancing.{Goes, beside_same}
use Rattle.script_engine.proofs.Journals.{local_one, recorded_still}
use Rattle.script_engine.proofs.Passing.{passes_local}

-- the command is done
pub record Done (w : World) (d : ℕ) (op : LocalOp) (m : Machine) (reply : Reply) (new : Machine) : Type 0 where
  pub cmd : VolCmd
  pub resolves : Resolves (w.at d).volume op (Ok cmd)
  pub after : World
  pub step : Step w d (LocalEvent cmd) after
  pub reply_is : reply ≡ Usn (w.at d).volume.next_usn
  pub goes : Goes w d m new after
  pub keeps : (contents : Uid → List ℕ) → HoldsContents contents m → HoldsContents contents new
  pub local : local_in new ≡ local_in m + 1

-- it is refused
pub record Stays (w : World) (d : ℕ) (op : LocalOp) (m : Machine) (reply : Reply) (new : Machine) : Type 0 where
  pub why : Refused
  pub resolves : Resolves (w.at d).volume op (Err why)
  pub reply_is : reply ≡ Refuses (Local why)
  pub same : new ≡ m

-- the machine of a member whose volume went on
operated_stands : (w : World) (d : ℕ) (cmd : VolCmd) (m new : Machine) → MachineStands w.all (w.at d) d m → IsSoundMachine new → IsLocal (w.at d).volume cmd → new ≡ record m { volume = effect cmd m.volume }
    → MachineStands w.all (operated d cmd (w.at d)) d new
operated_stands w d cmd m new s keeps may is =
    let x = w.at d in
    let o = s.sound.order in
    let stands : Stands (effect cmd m.volume) (write m.volume.own cmd x.volume) =
    stands_on cmd m.volume x.volume o.volume o.free (tables_are_tests cmd m.volume x.volume o.volume o.free s.volume (inl may)) s.volume in
    let own : Stands (effect cmd m.volume) (write d cmd x.volume) = subst (λ n. Stands (effect cmd m.volume) (write n cmd x.volume)) (o.own ∙ s.own) stands in
    record {
      sound = keeps;
      own = ap (λ (y : Machine). y.book.own) is ∙ s.own;
      set = ap (λ (y : Machine). y.book.set) is ∙ s.set;
      kind = ap (λ (y : Machine). y.book.kind) is ∙ s.kind;
      forms = s.forms;
      book = subst (StandsFor w.all x.known x.consumed x.phase s.forms) (sym (ap (λ (y : Machine). y.book) is)) s.book;
      staged = s.staged;
      volume = subst (λ v. Stands v (write d cmd x.volume)) (sym (ap (λ (y : Machine). y.volume) is)) own;
    }

done : (w : World) (d : ℕ) (op : LocalOp) (cmd : VolCmd) (m : Machine) (reply : Reply) (new : Machine) → IsSoundWorld w → MachineStands w.all (w.at d) d m → IsSoundMachine new
    → Resolves (w.at d).volume op (Ok cmd) → Operates cmd m reply new → Done w d op m reply new
done w d op cmd m reply new sound s keeps resolves (said, is) =
    let may = resolved_may op (w.at d).volume cmd resolves in
    let after = with_member w d (operated d cmd (w.at d)) in
    let passes = passes_local w d cmd after sound (may, refl) in
    record {
      cmd = cmd;
      resolves = resolves;
      after = after;
      step = (may, refl);
      reply_is = said ∙ ap Usn (sym s.volume.next_usn);
      goes = record {
        passes = passes;
        stands = subst (λ x. MachineStands w.all x d new) (sym (at_same w.at d (operated d cmd (w.at d)))) (operated_stands w d cmd m new s keeps may is);
        beside = beside_same w after d refl passes;
        ours = λ h. h;
        counted = let still = recorded_still cmd m new (w.at d).volume may is in omega (arith, still);
      };
      keeps = λ contents h uid form staged. h uid form (sym (ap (λ (y : Machine). form_of y.book uid) is) ∙ staged);
      local = local_one cmd m new (w.at d).volume may is;
    }

-- it is done, or refused
pub operates : (w : World) (d : ℕ) (op : LocalOp) (m : Machine) (reply : Reply) (new : Machine) → IsSoundWorld w → MachineStands w.all (w.at d) d m → IsSoundMachine new
    → AnswersLocal op m reply new → Done w d op m reply new ⊎ Stays w d op m reply new
operates w d op m reply new sound s keeps answers = by (resolve m.volume.objects op) (lists_resolve op m.volume (w.at d).volume s.sound.order.volume s.volume) answers
  where
    by : (answer : Result VolCmd Refused) → Resolves (w.at d).volume op answer → MatchResult answer (λ cmd. Operates cmd m reply new) (λ why. IsRefusedBy (Local why) m reply new)
        → Done w d op m reply new ⊎ Stays w d op m reply new
    by (Ok cmd) resolves a = inl (done w d op cmd m reply new sound s keeps resolves a)
    by (Err why) resolves (said, same) = inr (record { why = why; resolves = resolves; reply_is = said; same = same })
