-- What a pull leaves of a sound scene.
use Rattle.std.proofs.Common.{◌≡◌, ◌≢◌, ℕ, false, List, [], ◌∷◌, refl, sym, ap, ◌∙◌, subst, inl, inr, Option, Some, None}
use Rattle.std.specs.Prelude.{if◌then◌else◌}
use Rattle.win_order.specs.declared.update.Update.{Update}
use Rattle.vol_state.specs.declared.command.VolCmd.{VolCmd}
use Rattle.record_db.specs.Records.{Versions}
use Rattle.record_db.specs.Staged.{with_uid}
use Rattle.name_rules.specs.Tree.{is_file}
use Rattle.world_model.specs.World.{Member, World}
use Rattle.world_model.specs.Events.{Step, Local, SendVector, adopted_by, consumed_by, consumes, finished_by, operated}
use Rattle.world_model.proofs.Changing.{at_other, at_same}
use Rattle.script_engine.specs.declared.consumed.Consumed.{Consumed}
use Rattle.script_engine.specs.declared.consumed.Consumed.TheVariants.{Made, Skipped}
use Rattle.script_engine.specs.declared.refusal.Refusal.{Refusal}
use Rattle.script_engine.specs.Consuming.{ConsumesAll, ConsumesNext, ConsumesOne}
use Rattle.script_engine.specs.Pulling.{Ends, GoesOn, Pulls, Rest, Takes, TakesFiles, TakesPages, with_given}
use Rattle.script_engine.specs.Scene.{Scene, in_world, with_contents}
use Rattle.script_engine.specs.Sound.{AreStaged, IsSoundWorld}
use Rattle.script_engine.proofs.Gives.{GivenSum, IsKept, adopted_staged, gives_sum}
use Rattle.script_engine.proofs.Leading.{Leads, Unstages, leads_by, leads_kept, leads_refl, leads_trans, member_unstages, without_made, without_one}
use Rattle.script_engine.proofs.Passing.{ends_pass, pages_pass, passes_trans, passes_vector, takes_passes}
use Rattle.script_engine.proofs.Vectors.{HasVector}

-- ---- what is staged

unstages_refl : (x : Member) → Unstages x x
unstages_refl x uid sum e = e

unstages_trans : (x y z : Member) → Unstages x y → Unstages y z → Unstages x z
unstages_trans x y z p q uid sum e = p uid sum (q uid sum e)

-- a world with the member as it was
same_world : (w new : World) (d : ℕ) → new ≡ w → Unstages (w.at d) (new.at d)
same_world w new d is = subst (λ (z : World). Unstages (w.at d) (z.at d)) (sym is) (unstages_refl (w.at d))

pub local_unstages : (w : World) (d : ℕ) (op : VolCmd) (new : World) → Step w d (Local op) new → Unstages (w.at d) (new.at d)
local_unstages w d op new (may, is) = member_unstages w new d (operated d op (w.at d)) is (λ uid sum e. e)

consumed_unstages : (w : World) (d : ℕ) (made : Option Update) (new : World) → new ≡ consumes w d made → Unstages (w.at d) (new.at d)
consumed_unstages w d made new is =
    subst (Unstages (w.at d)) (sym (ap (λ (z : World). z.at d) is ∙ at_same w.at d (consumed_by d made (w.at d)))) (λ uid sum e. without_made made (w.at d).staged uid sum e)

pub consumes_one_unstages : (w : World) (d moment : ℕ) (c : Consumed) (new : World) → ConsumesOne w d moment c new → Unstages (w.at d) (new.at d)
consumes_one_unstages w d moment (Made usn) new (same, fits, u, r, is) = consumed_unstages w d (Some u) new is
consumes_one_unstages w d moment (Skipped usn) new (same, fits, r, is) = consumed_unstages w d None new is

pub consumes_all_unstages : (w : World) (d moment : ℕ) (done : List Consumed) (why : Option Refusal) (new : World) → ConsumesAll w d moment done why new → Unstages (w.at d) (new.at d)
consumes_all_unstages w d moment [] why new (inl (end, none, is)) = same_world w new d is
consumes_all_unstages w d moment [] why new (inr (count, wide, some, is)) = same_world w new d is
consumes_all_unstages w d moment (c ∷ cs) why new (mid, one, more) =
    unstages_trans (w.at d) (mid.at d) (new.at d) (consumes_one_unstages w d moment c mid one) (consumes_all_unstages mid d moment cs why new more)

pub consumes_next_unstages : (w : World) (d moment : ℕ) (done : List Consumed) (why : Option Refusal) (new : World) → ConsumesNext w d moment done why new → Unstages (w.at d) (new.at d)
consumes_next_unstages w d moment [] None new (end, is) = same_world w new d is
consumes_next_unstages w d moment [] (Some why) new (count, wide, some, is) = same_world w new d is
consumes_next_unstages w d moment (c ∷ []) None new one = consumes_one_unstages w d moment c new one
consumes_next_unstages w d moment (c ∷ []) (Some why) new bad = absurd bad
consumes_next_unstages w d moment (c ∷ more ∷ rest) why new bad = absurd bad

-- ---- pages and the end

-- what is taken is no present file
take_unstages : (w : World) (puller server : ℕ) (u : Update) (new : World) → is_file u ≡ false → Takes w puller server u new → Unstages (w.at puller) (new.at puller)
take_unstages w puller server u new other (fits, mid, send, adopt) =
    let same : mid.at puller ≡ w.at puller = ap (λ (z : World). z.at puller) send.1 in
    subst (λ x. Unstages x (new.at puller)) same
    (member_unstages mid new puller (adopted_by u (mid.at puller)) adopt.2 (λ uid sum e.
    without_one (mid.at puller).staged u.uid uid sum (subst (λ b. with_uid (mid.at puller).staged u.uid (if b then Some u.hash else None) uid ≡ Some sum) other e)))

pub pages_unstage : (w : World) (puller server : ℕ) (us listed : List Update) (taken : ℕ) (why : Option Refusal) (new : World) → TakesPages w puller server us listed taken why new → Unstages (w.at puller) (new.at puller)
pages_unstage w puller server [] listed taken why new (empty, zero, none, is) = same_world w new puller is
pages_unstage w puller server (u ∷ us) listed taken why new (inl (beaten, rest)) = pages_unstage w puller server us listed taken why new rest
pages_unstage w puller server (u ∷ us) listed taken why new (inr (inl (wanted, file, more, list, rest))) = pages_unstage w puller server us more taken why new rest
pages_unstage w puller server (u ∷ us) listed taken why new (inr (inr (inl (other, mid, others, took, rest, count)))) =
    unstages_trans (w.at puller) (mid.at puller) (new.at puller) (take_unstages w puller server u mid other took) (pages_unstage mid puller server us listed others why new rest)
pages_unstage w puller server (u ∷ us) listed taken why new (inr (inr (inr (other, count, much, is, rest, zero, some)))) = same_world w new puller is

pub ends_unstage : (w : World) (puller : ℕ) (s : Versions) (why : Option Refusal) (new : World) → Ends w puller s why new → Unstages (w.at puller) (new.at puller)
ends_unstage w puller s why new (inl (fits, finish, none)) = member_unstages w new puller (finished_by s (w.at puller)) finish.2 (λ uid sum e. e)
ends_unstage w puller s why new (inr (count, much, some, is)) = same_world w new puller is

-- ---- files

-- the scene goes on with what was given
pub given_leads : (s : Scene) (puller server : ℕ) (u : Update) (given : Option (List ℕ)) (mid : World) → IsSoundWorld s.world → GivenSum u given → Takes s.world puller server u mid → Leads puller s (with_given s puller u given mid)
given_leads s puller server u given mid h sum took = record {
  names = refl;
  passes = takes_passes s.world puller server u mid h took;
  staged = λ old. staged took old;
  beside = λ j n. beside given j n;
}
  where
    staged : Takes s.world puller server u mid → AreStaged (s.world.at puller) (s.contents puller) → AreStaged (mid.at puller) (with_contents s.contents puller u.uid given puller)
    staged (fits, sent, send, adopt) old =
        let same : sent.at puller ≡ s.world.at puller = ap (λ (z : World). z.at puller) send.1 in
        let now : mid.at puller ≡ adopted_by u (s.world.at puller) = ap (λ (z : World). z.at puller) adopt.2 ∙ at_same sent.at puller (adopted_by u (sent.at puller)) ∙ ap (adopted_by u) same in
        subst (λ x. AreStaged x (with_contents s.contents puller u.uid given puller)) (sym now) (adopted_staged (s.world.at puller) s.contents puller u given sum old)

    beside : (given : Option (List ℕ)) (j : ℕ) → j ≢ puller → with_contents s.contents puller u.uid given j ≡ s.contents j
    beside None j n = refl
    beside (Some bytes) j n = at_other s.contents puller (with_uid (s.contents puller) u.uid bytes) j n

pub files_lead : (s : Scene) (puller server : ℕ) (us : List Update) (taken : ℕ) (why : Option Refusal) (new : Scene) → IsKept s → TakesFiles s puller server us taken why new → Leads puller s new
files_lead s puller server [] taken why new h (zero, none, is) = subst (Leads puller s) (sym is) (leads_refl puller s h.world)
files_lead s puller server (u ∷ us) taken why new h (inl (beaten, rest)) = files_lead s puller server us taken why new h rest
files_lead s puller server (u ∷ us) taken why new h (inr (inl (wanted, usn, last, zero, some, is))) = subst (Leads puller s) (sym is) (leads_refl puller s h.world)
files_lead s puller server (u ∷ us) taken why new h (inr (inr (inl (v, given, mid, others, wanted, file, held, gives, took, rest, count)))) =
    let l = given_leads s puller server v given mid h.world (gives_sum s server v given h held gives) took in
    let next = with_given s puller v given mid in
    leads_trans puller s next new l (files_lead next puller server us others why new (leads_kept puller s next h l) rest)
files_lead s puller server (u ∷ us) taken why new h (inr (inr (inr (v, count, wanted, file, held, much, is, zero, some)))) = subst (Leads puller s) (sym is) (leads_refl puller s h.world)

-- ---- the whole

pub end_leads : (s : Scene) (puller : ℕ) (versions : Versions) (why : Option Refusal) (w : World) → IsKept s → HasVector versions → Ends s.world puller versions why w → Leads puller s (in_world s w)
end_leads s puller versions why w h vector ends = leads_by puller s w (ends_pass s.world puller versions why w h.world vector ends) (ends_unstage s.world puller versions why w ends)

goes_on_leads : (d : ℕ) (s mid : Scene) (first : Option Refusal) (next : Scene → Option Refusal → Scene → Type 0) (why : Option Refusal) (new : Scene) → Leads d s mid
    → ((why : Option Refusal) (new : Scene) → next mid why new → Leads d mid new) → GoesOn first mid next why new → Leads d s new
goes_on_leads d s mid None next why new l more on = leads_trans d s mid new l (more why new on)
goes_on_leads d s mid (Some refused) next why new l more (same, is) = subst (Leads d s) (sym is) l

rest_leads : (puller server : ℕ) (versions : Versions) (listed : List Update) (fetched : ℕ) (s : Scene) (why : Option Refusal) (new : Scene) → IsKept s → HasVector versions → Rest puller server versions listed fetched s why new → Leads puller s new
rest_leads puller server versions listed fetched s why new h vector (second, last, files, on) =
    let l = files_lead s puller server listed fetched second last h files in
    let kept = leads_kept puller s last h l in
    goes_on_leads puller s last second _ why new l (λ why new (w, ends, is). subst (Leads puller last) (sym is) (end_leads last puller versions why w kept vector ends)) on

-- the vector and the pages
pub paged_leads : (s : Scene) (puller server : ℕ) (sent : World) (page listed : List Update) (taken : ℕ) (why : Option Refusal) (mid : World) → IsKept s → Step s.world server SendVector sent
    → TakesPages sent puller server page listed taken why mid → Leads puller s (in_world s mid)
paged_leads s puller server sent page listed taken why mid h send pages =
    let p = passes_vector s.world puller server sent h.world send in
    let same : sent.at puller ≡ s.world.at puller = ap (λ (z : World). z.at puller) send in
    leads_by puller s mid (passes_trans puller s.world sent mid p (pages_pass sent puller server page listed taken why mid p.sound pages))
    (subst (λ x. Unstages x (mid.at puller)) same (pages_unstage sent puller server page listed taken why mid pages))

pub pulls_lead : (s : Scene) (puller server taken : ℕ) (why : Option Refusal) (new : Scene) → IsKept s → Pulls s puller server taken why new → Leads puller s new
pulls_lead s puller server taken why new h (sent, page, listed, at_once, fetched, first, mid, send, asked, pages, on, count) =
    let l = paged_leads s puller server sent page listed at_once first mid h send pages in
    let kept = leads_kept puller s (in_world s mid) h l in
    goes_on_leads puller s (in_world s mid) first _ why new l (λ why new rest. rest_leads puller server (s.world.at server).known listed fetched (in_world s mid) why new kept (h.world.vectors server) rest) on
