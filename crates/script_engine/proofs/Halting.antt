-- What is begun of a line keeps a scene sound.
use Rattle.std.proofs.Common.{◌≡◌, ◌<◌, ◌^◌, ℕ, List, [], ◌∷◌, sym, subst, inl, inr, Some, None, Ok}
use Rattle.vol_state.specs.declared.operation.LocalOp.{LocalOp}
use Rattle.vol_state.specs.declared.operation.LocalOp.TheVariants as op
use Rattle.win_order.specs.declared.update.Update.{Update}
use Rattle.record_db.specs.Records.{Versions}
use Rattle.script_lang.specs.declared.line.Line.TheVariants as lines
use Rattle.world_model.specs.World.{World}
use Rattle.world_model.specs.Runs.{Grows}
use Rattle.world_model.proofs.Growth.{grows_refl}
use Rattle.script_engine.specs.declared.consumed.Consumed.{Consumed}
use Rattle.script_engine.specs.Begun.{Begins, BeginsAt, BeginsChange, BeginsPull, BeginsRest, ConsumesSome, OperatesOnce}
use Rattle.script_engine.specs.Scene.{IsNamed, Scene, in_world}
use Rattle.script_engine.specs.Scripts.{BeginningsKeepScenesSound}
use Rattle.script_engine.specs.Sound.{IsSoundScene, IsSoundWorld}
use Rattle.script_engine.specs.Text.{filled}
use Rattle.script_engine.proofs.Passing.{Passes, consumes_one_passes, passes_local, passes_refl, passes_trans}
use Rattle.script_engine.proofs.Drained.{some_passes, some_stages}
use Rattle.script_engine.proofs.Gives.{IsKept, scene_kept}
use Rattle.script_engine.proofs.Installed.{installs_pass, installs_stage}
use Rattle.script_engine.proofs.Leading.{Leads, Unstages, leads_by, leads_kept, leads_trans}
use Rattle.script_engine.proofs.Pulled.{consumes_one_unstages, end_leads, files_lead, local_unstages, paged_leads}
use Rattle.script_engine.proofs.Scenes.{scene_after}
use Rattle.script_engine.proofs.Vectors.{HasVector}

-- ---- worlds

operates_pass : (w : World) (d : ℕ) (operation : LocalOp) (new : World) → IsSoundWorld w → OperatesOnce w d operation new → Passes d w new
operates_pass w d operation new h (cmd, resolves, step) = passes_local w d cmd new h step

consumed_pass : (w : World) (d moment : ℕ) (done : List Consumed) (new : World) → moment < 2 ^ 61 → IsSoundWorld w → ConsumesSome w d moment done new → Passes d w new
consumed_pass w d moment [] new early h is = subst (Passes d w) (sym is) (passes_refl d w h)
consumed_pass w d moment (c ∷ rest) new early h (mid, one, some) =
    let p = consumes_one_passes w d moment c mid early h one in
    passes_trans d w mid new p (consumed_pass mid d moment rest new early p.sound some)

change_passes : (w : World) (d : ℕ) (operation : LocalOp) (moment : ℕ) (new : World) → moment < 2 ^ 61 → IsSoundWorld w → BeginsChange w d operation moment new → Passes d w new
change_passes w d operation moment new early h (put, done, operates, some) =
    let p = operates_pass w d operation put h operates in
    passes_trans d w put new p (consumed_pass put d moment done new early p.sound some)

some_unstages : (w : World) (d moment : ℕ) (done : List Consumed) (new : World) → ConsumesSome w d moment done new → Unstages (w.at d) (new.at d)
some_unstages w d moment [] new is uid sum e = subst (λ (z : World). (z.at d).staged uid ≡ Some sum) is e
some_unstages w d moment (c ∷ rest) new (mid, one, some) uid sum e = consumes_one_unstages w d moment c mid one uid sum (some_unstages mid d moment rest new some uid sum e)

change_unstages : (w : World) (d : ℕ) (operation : LocalOp) (moment : ℕ) (new : World) → BeginsChange w d operation moment new → Unstages (w.at d) (new.at d)
change_unstages w d operation moment new (put, done, (cmd, resolves, step), some) uid sum e = local_unstages w d cmd put step uid sum (some_unstages put d moment done new some uid sum e)

-- ---- scenes

-- a sound scene whose world grew
abbrev GoesWell : Scene → Scene → Type 0
GoesWell s new = IsSoundScene new × Grows s.world new.world

stays : (s new : Scene) → IsSoundScene s → new ≡ s → GoesWell s new
stays s new h is = subst (GoesWell s) (sym is) (h, grows_refl s.world)

-- a scene whose world went on at a named member
goes_well : (s new : Scene) (name : List ℕ) (d : ℕ) → IsSoundScene s → IsNamed s name d → Leads d s new → GoesWell s new
goes_well s new name d h named l = (scene_after s new name d h named l, l.passes.grows)

at_passes : (s : Scene) (name : List ℕ) (Did : ℕ → World → Type 0) (new : Scene) → IsSoundScene s → ((d : ℕ) (w : World) → Did d w → Passes d s.world w) → ((d : ℕ) (w : World) → Did d w → Unstages (s.world.at d) (w.at d))
    → BeginsAt s name Did new → GoesWell s new
at_passes s name Did new h pass unstages (inl is) = stays s new h is
at_passes s name Did new h pass unstages (inr (d, w, named, did, is)) = subst (GoesWell s) (sym is) (goes_well s (in_world s w) name d h named (leads_by d s w (pass d w did) (unstages d w did)))

operates_unstages : (w : World) (d : ℕ) (operation : LocalOp) (new : World) → OperatesOnce w d operation new → Unstages (w.at d) (new.at d)
operates_unstages w d operation new (cmd, resolves, step) = local_unstages w d cmd new step

-- ---- pulls

rest_leads : (s : Scene) (puller server : ℕ) (versions : Versions) (listed : List Update) (new : Scene) → IsKept s → HasVector versions → BeginsRest s puller server versions listed new → Leads puller s new
rest_leads s puller server versions listed new h vector (inl (n, taken, files)) = files_lead s puller server _ taken None new h files
rest_leads s puller server versions listed new h vector (inr (taken, last, w, files, ends, is)) =
    let l = files_lead s puller server listed taken None last h files in
    subst (Leads puller s) (sym is) (leads_trans puller s last (in_world last w) l (end_leads last puller versions None w (leads_kept puller s last h l) vector ends))

pull_leads : (s : Scene) (puller server : ℕ) (new : Scene) → IsKept s → BeginsPull s puller server new → Leads puller s new
pull_leads s puller server new h (sent, page, step, asked, inl (w, (n, listed, taken, pages), is)) = subst (Leads puller s) (sym is) (paged_leads s puller server sent _ listed taken None w h step pages)
pull_leads s puller server new h (sent, page, step, asked, inr (listed, taken, mid, pages, rest)) =
    let l = paged_leads s puller server sent page listed taken None mid h step pages in
    leads_trans puller s (in_world s mid) new l (rest_leads (in_world s mid) puller server (s.world.at server).known listed new (leads_kept puller s (in_world s mid) h l) (h.world.vectors server) rest)

pull_well : (s : Scene) (name other : List ℕ) (new : Scene) → IsSoundScene s → Begins s (lines.Pull name other) new → GoesWell s new
pull_well s name other new h (inl is) = stays s new h is
pull_well s name other new h (inr (puller, server, named, there, apart, pull)) = goes_well s new name puller h named (pull_leads s puller server new (scene_kept s h) pull)

-- ---- lines

pub begins_keep : BeginningsKeepScenesSound
begins_keep s (lines.Member name kind) new h form is = stays s new h is
begins_keep s (lines.Put name path bytes) new h form b = at_passes s name _ new h (λ d w o. operates_pass s.world d (op.Put path bytes) w h.world o) (λ d w o. operates_unstages s.world d (op.Put path bytes) w o) b
begins_keep s (lines.Fill name path count) new h form b = at_passes s name _ new h (λ d w o. operates_pass s.world d (op.Put path (filled count)) w h.world o) (λ d w o. operates_unstages s.world d (op.Put path (filled count)) w o) b
begins_keep s (lines.Mkdir name path) new h form b = at_passes s name _ new h (λ d w o. operates_pass s.world d (op.Mkdir path) w h.world o) (λ d w o. operates_unstages s.world d (op.Mkdir path) w o) b
begins_keep s (lines.Move name from to) new h form b = at_passes s name _ new h (λ d w o. operates_pass s.world d (op.Move from to) w h.world o) (λ d w o. operates_unstages s.world d (op.Move from to) w o) b
begins_keep s (lines.Remove name path) new h form b = at_passes s name _ new h (λ d w o. operates_pass s.world d (op.Remove path) w h.world o) (λ d w o. operates_unstages s.world d (op.Remove path) w o) b
begins_keep s (lines.Consume name moment) new h form b = at_passes s name _ new h (λ d w (c, one). consumes_one_passes s.world d moment c w form.1 h.world one) (λ d w (c, one). consumes_one_unstages s.world d moment c w one) b
begins_keep s (lines.Change name path moment) new h form b = at_passes s name _ new h (λ d w c. change_passes s.world d (op.Put path []) moment w form.2 h.world c) (λ d w c. change_unstages s.world d (op.Put path []) moment w c) b
begins_keep s (lines.Pull name other) new h form b = pull_well s name other new h b
begins_keep s (lines.Install name) new h form b = at_passes s name _ new h (λ d w (step, installs). installs_pass s d (Ok (Some step)) w h.world installs) (λ d w (step, installs). installs_stage s d (Ok (Some step)) w h.world installs) b
begins_keep s (lines.Drain name) new h form b = at_passes s name _ new h (λ d w (steps, some). some_passes s d steps w h.world some) (λ d w (steps, some). some_stages s d steps w h.world some) b
begins_keep s (lines.Show name) new h form is = stays s new h is
begins_keep s (lines.Tree name) new h form is = stays s new h is
begins_keep s (lines.Sums name) new h form is = stays s new h is
begins_keep s (lines.Count name) new h form is = stays s new h is
