-- An event has one answer, and leads to one machine.
use Rattle.std.proofs.Common.{◌≡◌, ◌<◌, ◌≤◌, ◌+◌, ◌||◌, ℕ, Bool, true, false, ltb, List, [], ◌∷◌, length, Option, Some, None, Result, Ok, Err, refl, sym, ap, ◌∙◌, subst, inl, inr, arith}
use Rattle.std.specs.Prelude.{MatchBool, MatchOption, MatchResult, unwrap_or}
use Rattle.std.proofs.lemmas.Bool.Decides.{nat_tests}
use Rattle.frs_base.specs.Options.{In}
use Rattle.frs_base.specs.declared.version.Gvsn.{Gvsn}
use Rattle.frs_base.specs.declared.version.Uid.{Uid}
use Rattle.frs_base.specs.declared.sum.Sum.{Sum}
use Rattle.marshal_form.proofs.Locals.{local_bad_places_are_one, local_forms_have_no_bad_place}
use Rattle.version_vector.specs.Limits.{IsTooLong}
use Rattle.version_vector.specs.Places.{one_version}
use Rattle.version_vector.specs.Unions.{inserted}
use Rattle.version_vector.specs.Versions.{IsCanonical, covers, inside}
use Rattle.version_vector.specs.declared.errors.VectorError.TheVariants as vector
use Rattle.version_vector.specs.declared.interval.Interval.{Interval}
use Rattle.version_vector.proofs.Insertions.{adds_version, covers-inserted, inserted_form}
use Rattle.version_vector.proofs.Uniqueness.{unique}
use Rattle.win_order.specs.declared.update.Update.{Update}
use Rattle.vol_state.specs.declared.command.VolCmd.{VolCmd}
use Rattle.vol_state.specs.declared.operation.Refused.{Refused}
use Rattle.vol_state.specs.declared.command.VolCmd.TheVariants as vol
use Rattle.vol_state.specs.declared.object.Object.{Object}
use Rattle.vol_state.specs.Effects.{effect, uid_at}
use Rattle.vol_state.specs.Maps.{maps_of}
use Rattle.vol_state.specs.Paths.{resolve}
use Rattle.vol_state.specs.State.{uid_of}
use Rattle.vol_state.specs.Tables.{IsAt}
use Rattle.name_rules.specs.Tree.{is_file, kind_of}
use Rattle.record_db.specs.declared.command.BookCmd.{BookCmd}
use Rattle.record_db.specs.declared.command.BookCmd.TheVariants as cmd
use Rattle.record_db.specs.State.{BookState, IsVector, form_of}
use Rattle.record_db.specs.Steps.{Changes, covered_after, own_version}
use Rattle.record_db.specs.Records.{Versions}
use Rattle.name_rules.specs.Next.{IsThere}
use Rattle.name_rules.specs.Recorded.{parent_uid}
use Rattle.name_rules.specs.declared.step.Next.{Next}
use Rattle.name_rules.specs.declared.step.Next.TheVariants as next
use Rattle.name_rules.specs.declared.step.Step.{Step}
use Rattle.name_rules.specs.declared.step.Step.TheVariants as step
use Rattle.name_rules.proofs.Parents.{parent_is, parent_root}
use Rattle.world_model.proofs.Alone.{answers_are_one as members_once}
use Rattle.world_model.proofs.Folder.{one_of}
use Rattle.folder_core.specs.declared.event.Event.TheVariants as event
use Rattle.folder_core.specs.declared.refusal.Refusal.{Refusal}
use Rattle.folder_core.specs.declared.refusal.Refusal.TheVariants as why
use Rattle.folder_core.specs.declared.reply.Reply.{Reply}
use Rattle.folder_core.specs.declared.reply.Reply.TheVariants as reply
use Rattle.folder_core.specs.Machine.{Machine, Refuses}
use Rattle.folder_core.specs.Books.{Changed, Takes}
use Rattle.folder_core.specs.Local.{Operates}
use Rattle.folder_core.specs.Consume.{AnswersRecord, is_at_end, made_at}
use Rattle.folder_core.specs.Adopt.{AnswersForm, ChecksForm, Stages, adopt_refusal}
use Rattle.folder_core.specs.Finish.{IsLeastAhead, first_unheld}
use Rattle.folder_core.specs.Install.{AnswersInstall, AnswersNext, DoesStep, GivesContents, Installs, IsOperation, contents_in}
use Rattle.folder_core.specs.Sound.{IsSound, member_of}
use Rattle.folder_core.specs.Laws.{AnswersAreOne, Runs, RunsAreOne}

-- two answers and what they lead to are one
abbrev AreOne : Reply → Machine → Reply → Machine → Type 0
AreOne a x b y = (a ≡ b) × (x ≡ y)

-- ---- refusals and operations

refusals_one : (old : Machine) (w : Refusal) (a b : Reply) (x y : Machine) → Refuses w old a x → Refuses w old b y → AreOne a x b y
refusals_one old w a b x y (p, q) (r, s) = (p ∙ sym r, q ∙ sym s)

operations_one : (old : Machine) (a b : Reply) (x y : Machine) (r : Result VolCmd Refused) → MatchResult r (λ op. Operates op old a x) (λ w. Refuses (why.Local w) old a x)
    → MatchResult r (λ op. Operates op old b y) (λ w. Refuses (why.Local w) old b y) → AreOne a x b y
operations_one old a b x y (Ok op) (p, q) (r, s) = (p ∙ sym r, q ∙ sym s)
operations_one old a b x y (Err w) h k = refusals_one old (why.Local w) a b x y h k

-- ---- vectors

-- some list covers just a set
abbrev IsCovered : Versions → Type 0
IsCovered known = (list : List Interval) × IsVector known list

empty_inside : (i : Interval) (h : Gvsn) → ltb i.low i.high ≡ false → inside i h ≡ false
empty_inside i h e = grind (arith, nat_tests)

covers_both : (old sent : List Interval) → IsCanonical old → IsCovered (λ h. covers sent h || covers old h)
covers_both old [] form = (old, record { canonical = form; covering = λ h. refl })
covers_both old (i ∷ rest) form = by (ltb i.low i.high) refl (covers_both old rest form)
  where
    by : (b : Bool) → ltb i.low i.high ≡ b → IsCovered (λ h. covers rest h || covers old h) → IsCovered (λ h. covers (i ∷ rest) h || covers old h)
    by true e (list, v) =
        let full : i.low < i.high = grind (arith, nat_tests) in (
          inserted i list,
          record {
            canonical = inserted_form i list full v.canonical;
            covering = λ h. covers-inserted i list full v.canonical h ∙ (ap (λ b. inside i h || b) (v.covering h) ∙ assoc (inside i h) (covers rest h) (covers old h));
          },
        )
      where
        assoc : (a b c : Bool) → (a || (b || c)) ≡ ((a || b) || c)
        assoc true b c = refl
        assoc false b c = refl
    by false e (list, v) = (
      list,
      record {
        canonical = v.canonical;
        covering = λ h. v.covering h ∙ ap (λ b. (b || covers rest h) || covers old h) (sym (empty_inside i h e));
      },
    )

covers_after : (op : BookCmd) (book : BookState) → IsCanonical book.vector → IsCovered (covered_after op book)
covers_after (cmd.RecordLocal usn u) book form = (
  inserted (one_version (own_version book usn)) book.vector,
  record {
    canonical = inserted_form (one_version (own_version book usn)) book.vector (omega arith) form;
    covering = λ h. adds_version (own_version book usn) book.vector form h;
  },
)
covers_after (cmd.Adopt u staged) book form = (
  inserted (one_version u.gvsn) book.vector,
  record {
    canonical = inserted_form (one_version u.gvsn) book.vector (omega arith) form;
    covering = λ h. adds_version u.gvsn book.vector form h;
  },
)
covers_after (cmd.Finish sent) book form = covers_both book.vector sent form
covers_after (cmd.Unstage uid) book form = (book.vector, record { canonical = form; covering = λ h. refl })

-- ---- commands on the book

changes_one : (op : BookCmd) (old x y : BookState) → Changes op old x → Changes op old y → x ≡ y
changes_one op old x y c d =
    let vector = unique x.vector y.vector c.vector.canonical d.vector.canonical (λ h. c.vector.covering h ∙ sym (d.vector.covering h)) in
    let kind = c.kind ∙ sym d.kind in
    let own = c.own ∙ sym d.own in
    let set = c.set ∙ sym d.set in
    let records = c.records ∙ sym d.records in
    let consumed = c.consumed ∙ sym d.consumed in
    let phase = c.phase ∙ sym d.phase in
    let staged = c.staged ∙ sym d.staged in
    (λ i. record { kind = kind i; own = own i; set = set i; records = records i; vector = vector i; consumed = consumed i; phase = phase i; staged = staged i })

changed_one : (op : BookCmd) (old x y : Machine) → Changed op old x → Changed op old y → x ≡ y
changed_one op old x y c d =
    let volume = c.volume ∙ sym d.volume in
    let book = changes_one op old.book x.book y.book c.book d.book in
    (λ i. record { volume = volume i; book = book i })

-- a vector that is too long isn't the one that is taken
not_both : (op : BookCmd) (count : ℕ) (old x : Machine) → IsTooLong (vector.VectorFull count) (covered_after op old.book) → Changed op old x → ⊥
not_both op count old x (over, (list, form, alike, long)) c =
    let one : list ≡ x.book.vector = unique list x.book.vector form c.book.vector.canonical (λ h. alike h ∙ sym (c.book.vector.covering h)) in
    let short : length list ≤ 65536 = subst (λ l. length l ≤ 65536) (sym one) c.within in
    omega (arith, over, long, short)

counts_one : (op : BookCmd) (n m : ℕ) (old : Machine) → IsTooLong (vector.VectorFull n) (covered_after op old.book) → IsTooLong (vector.VectorFull m) (covered_after op old.book) → n ≡ m
counts_one op n m old (over, (a, form, alike, long)) (more, (b, form', alike', long')) =
    sym long ∙ ap length (unique a b form form' (λ h. alike h ∙ sym (alike' h))) ∙ long'

takes_one : (op : BookCmd) (done a b : Reply) (old x y : Machine) → IsCanonical old.book.vector → Takes op done old a x → Takes op done old b y → AreOne a x b y
takes_one op done a b old x y form (inl (p, c)) (inl (q, d)) = (p ∙ sym q, changed_one op old x y c d)
takes_one op done a b old x y form (inl (p, c)) (inr (n, full)) = absurd (not_both op n old x full.0 c)
takes_one op done a b old x y form (inr (n, full)) (inl (q, d)) = absurd (not_both op n old y full.0 d)
takes_one op done a b old x y form (inr (n, full)) (inr (m, over)) =
    (full.1.0 ∙ (ap (λ k. reply.Refused (why.VectorFull k)) (counts_one op n m old full.0 over.0) ∙ sym over.1.0), full.1.1 ∙ sym over.1.1)

-- ---- events

made_one : (b : Bool) (w : Refusal) (op : BookCmd) (done p q : Reply) (old x y : Machine) → IsCanonical old.book.vector → MatchBool b (Refuses w old p x) (Takes op done old p x)
    → MatchBool b (Refuses w old q y) (Takes op done old q y) → AreOne p x q y
made_one true w op done p q old x y form h k = refusals_one old w p q x y h k
made_one false w op done p q old x y form h k = takes_one op done p q old x y form h k

record_one : (made : Option Update) (p q : Reply) (old x y : Machine) → IsCanonical old.book.vector → AnswersRecord made old p x → AnswersRecord made old q y → AreOne p x q y
record_one None p q old x y form h k = takes_one _ _ p q old x y form h k
record_one (Some u) p q old x y form h k = made_one _ _ _ _ p q old x y form h k

consume_one : (b : Bool) (made : Option Update) (p q : Reply) (old x y : Machine) → IsCanonical old.book.vector → MatchBool b ((p ≡ reply.Nothing) × (x ≡ old)) (AnswersRecord made old p x)
    → MatchBool b ((q ≡ reply.Nothing) × (y ≡ old)) (AnswersRecord made old q y) → AreOne p x q y
consume_one true made p q old x y form (a, b) (c, d) = (a ∙ sym c, b ∙ sym d)
consume_one false made p q old x y form h k = record_one made p q old x y form h k

choice_one : {T : Type 0} (found : Option T) (op : BookCmd) (done : Reply) (w : T → Refusal) (p q : Reply) (old x y : Machine) → IsCanonical old.book.vector
    → MatchOption found (Takes op done old p x) (λ t. Refuses (w t) old p x) → MatchOption found (Takes op done old q y) (λ t. Refuses (w t) old q y) → AreOne p x q y
choice_one None op done w p q old x y form h k = takes_one op done p q old x y form h k
choice_one (Some t) op done w p q old x y form h k = refusals_one old (w t) p q x y h k

-- bytes are taken or refused in one way
checks_one : {T : Type 0} (form : List ℕ) (want : Sum) (taken : T) (a b : Result T Refusal) → ChecksForm form want taken a → ChecksForm form want taken b → a ≡ b
checks_one form want taken a b (inl (at, bad, p)) (inl (other, worse, q)) = p ∙ (ap (λ n. Err (why.MarshalBad n)) (local_bad_places_are_one form at other bad worse) ∙ sym q)
checks_one form want taken a b (inl (at, bad, p)) (inr (contents, local, q)) = absurd (local_forms_have_no_bad_place form contents at local bad)
checks_one form want taken a b (inr (contents, local, p)) (inl (at, bad, q)) = absurd (local_forms_have_no_bad_place form contents at local bad)
checks_one form want taken a b (inr (contents, local, inl (other, p))) (inr (more, too, inl (differs, q))) = p ∙ sym q
checks_one form want taken a b (inr (contents, local, inl (other, p))) (inr (more, too, inr (same, q))) = absurd (other same)
checks_one form want taken a b (inr (contents, local, inr (same, p))) (inr (more, too, inl (other, q))) = absurd (other same)
checks_one form want taken a b (inr (contents, local, inr (same, p))) (inr (more, too, inr (also, q))) = p ∙ sym q

stages_one : (u : Update) (form : Option (List ℕ)) (a b : Result (Option (List ℕ)) Refusal) → Stages u form a → Stages u form b → a ≡ b
stages_one u form a b h k = by (is_file u) h k
  where
    bytes : List ℕ
    bytes = unwrap_or form []

    by : (file : Bool) → MatchBool file (ChecksForm bytes u.hash (Some bytes) a) (a ≡ Ok None) → MatchBool file (ChecksForm bytes u.hash (Some bytes) b) (b ≡ Ok None) → a ≡ b
    by true p q = checks_one bytes u.hash (Some bytes) a b p q
    by false p q = p ∙ sym q

form_one : (staged : Result (Option (List ℕ)) Refusal) (u : Update) (p q : Reply) (old x y : Machine) → IsCanonical old.book.vector
    → MatchResult staged (λ given. Takes (cmd.Adopt u given) reply.Adopted old p x) (λ w. Refuses w old p x)
    → MatchResult staged (λ given. Takes (cmd.Adopt u given) reply.Adopted old q y) (λ w. Refuses w old q y) → AreOne p x q y
form_one (Ok given) u p q old x y form h k = takes_one _ _ p q old x y form h k
form_one (Err w) u p q old x y form h k = refusals_one old w p q x y h k

adopt_one : (found : Option Refusal) (u : Update) (given : Option (List ℕ)) (p q : Reply) (old x y : Machine) → IsCanonical old.book.vector
    → MatchOption found (AnswersForm u given old p x) (λ w. Refuses w old p x) → MatchOption found (AnswersForm u given old q y) (λ w. Refuses w old q y) → AreOne p x q y
adopt_one (Some w) u given p q old x y form h k = refusals_one old w p q x y h k
adopt_one None u given p q old x y form (staged, stages, h) (other, also, k) =
    form_one staged u p q old x y form h
    (subst (λ r. MatchResult r (λ g. Takes (cmd.Adopt u g) reply.Adopted old q y) (λ w. Refuses w old q y)) (stages_one u given other staged also stages) k)

least_one : (old : Machine) (sent : List Interval) (n m : ℕ) → IsLeastAhead old sent n → IsLeastAhead old sent m → n ≡ m
least_one old sent n m h k =
    let low = h.1 m k.0 in
    let high = k.1 n h.0 in
    omega (arith, low, high)

-- ---- the installer

-- one operation of a step
module _ (m : Machine) (h : IsSound m) where
  -- the object of a file has one number
  one_number : (f g : ℕ) (o q : Object) (uid : Uid) → IsAt (maps_of m.volume) f o → uid_of m.book.own o ≡ uid → IsAt (maps_of m.volume) g q → uid_of m.book.own q ≡ uid → f ≡ g
  one_number f g o q uid at is at' is' = h.agrees.member.places.uids f g o q at at' (is ∙ sym is')

  -- so has the directory with a UID
  one_parent : (f g : ℕ) → IsThere (maps_of m.volume) f → IsThere (maps_of m.volume) g → parent_uid m.book.own (maps_of m.volume) f ≡ parent_uid m.book.own (maps_of m.volume) g → f ≡ g
  one_parent f g (inl z) (inl z') e = z ∙ sym z'
  one_parent f g (inl z) (inr (q, at)) e =
      absurd (h.agrees.member.objects.no_root g q at (sym (parent_is m.book.own (maps_of m.volume) g q h.agrees.member.numbers.root at) ∙ (sym e ∙ parent_root m.book.own (maps_of m.volume) f z)))
  one_parent f g (inr (o, at)) (inl z) e =
      absurd (h.agrees.member.objects.no_root f o at (sym (parent_is m.book.own (maps_of m.volume) f o h.agrees.member.numbers.root at) ∙ (e ∙ parent_root m.book.own (maps_of m.volume) g z)))
  one_parent f g (inr (o, at)) (inr (q, at')) e =
      one_number f g o q (uid_of m.book.own q) at (sym (parent_is m.book.own (maps_of m.volume) f o h.agrees.member.numbers.root at) ∙ (e ∙ parent_is m.book.own (maps_of m.volume) g q h.agrees.member.numbers.root at')) at' refl

  -- and a file one record
  one_record : (uid : Uid) (u v : Update) → In u m.book.records → u.uid ≡ uid → In v m.book.records → v.uid ≡ uid → u ≡ v
  one_record uid u v a p b q = one_of m.book.records h.agrees.rising u v a b (p ∙ sym q)

  operation_one : (s : Step) (a b : VolCmd) → IsOperation m s a → IsOperation m s b → a ≡ b
  operation_one (step.Park uid) a b p q =
      let (f, o, at, is, e) = p.of_step in
      let (g, z, at', is', e') = q.of_step in
      e ∙ (ap vol.Park (one_number f g o z uid at is at' is') ∙ sym e')
  operation_one (step.Erase uid) a b p q =
      let (f, o, at, is, e) = p.of_step in
      let (g, z, at', is', e') = q.of_step in
      e ∙ (ap vol.Erase (one_number f g o z uid at is at' is') ∙ sym e')
  operation_one (step.Make uid) a b p q =
      let (u, bytes, r, id, e) = p.of_step in
      let (v, others, r', id', e') = q.of_step in
      let same : bytes ≡ others = subst (GivesContents m) e p.contents ∙ sym (subst (GivesContents m) e' q.contents) in
      let one = one_record uid u v r id r' id' in
      e ∙ ((λ i. vol.Make uid (kind_of (one i)) (same i)) ∙ sym e')
  operation_one (step.Rewrite uid) a b p q =
      let (f, o, bytes, at, is, e) = p.of_step in
      let (g, z, others, at', is', e') = q.of_step in
      let fid = one_number f g o z uid at is at' is' in
      let same : bytes ≡ others = subst (GivesContents m) e p.contents ∙ (ap (λ k. contents_in (form_of m.book (uid_at m.volume k))) fid ∙ sym (subst (GivesContents m) e' q.contents)) in
      e ∙ ((λ i. vol.Rewrite (fid i) (same i)) ∙ sym e')
  operation_one (step.Place uid) a b p q =
      let (f, o, u, k, at, is, r, id, there, up, e) = p.of_step in
      let (g, z, v, l, at', is', r', id', there', up', e') = q.of_step in
      let fid = one_number f g o z uid at is at' is' in
      let one = one_record uid u v r id r' id' in
      let parent = one_parent k l there there' (sym up ∙ (ap (λ w. w.parent) one ∙ up')) in
      e ∙ ((λ i. vol.Place (fid i) (parent i) (one i).name) ∙ sym e')
  operation_one (step.Unstage uid) a b p q = absurd p.of_step
  operation_one (step.Skip usn) a b p q = absurd p.of_step

installs_one : (old : Machine) (s : Step) (a b : Reply) (x y : Machine) → IsSound old → Installs s old a x → Installs s old b y → AreOne a x b y
installs_one old s a b x y h (op, is, p, q) (other, too, r, t) =
    (p ∙ sym r, q ∙ (ap (λ o. record old { volume = effect o old.volume }) (operation_one old h s op other is too) ∙ sym t))

steps_one : (old : Machine) (s : Step) (a b : Reply) (x y : Machine) → IsSound old → DoesStep s old a x → DoesStep s old b y → AreOne a x b y
steps_one old (step.Park uid) a b x y h p q = installs_one old (step.Park uid) a b x y h p q
steps_one old (step.Erase uid) a b x y h p q = installs_one old (step.Erase uid) a b x y h p q
steps_one old (step.Make uid) a b x y h p q = installs_one old (step.Make uid) a b x y h p q
steps_one old (step.Rewrite uid) a b x y h p q = installs_one old (step.Rewrite uid) a b x y h p q
steps_one old (step.Place uid) a b x y h p q = installs_one old (step.Place uid) a b x y h p q
steps_one old (step.Unstage uid) a b x y h (p, c) (q, d) = (p ∙ sym q, changed_one (cmd.Unstage uid) old x y c d)
steps_one old (step.Skip usn) a b x y h p q = takes_one _ _ a b old x y h.order.book.canonical p q

next_one : (old : Machine) (n : Next) (a b : Reply) (x y : Machine) → IsSound old → AnswersNext n old a x → AnswersNext n old b y → AreOne a x b y
next_one old (next.Do s) a b x y h p q = steps_one old s a b x y h p q
next_one old next.Drained a b x y h (p, q) (r, s) = (p ∙ sym r, q ∙ sym s)
next_one old (next.NotYet usn) a b x y h p q = refusals_one old (why.NotYet usn) a b x y p q

install_one : (old : Machine) (a b : Reply) (x y : Machine) → IsSound old → AnswersInstall old a x → AnswersInstall old b y → AreOne a x b y
install_one old a b x y h (n, is, p) (k, too, q) =
    next_one old n a b x y h p (subst (λ z. AnswersNext z old b y) (members_once old.book.own (member_of old) old.book.records h.agrees k n too is) q)

-- so has every event
pub answers_are_one : AnswersAreOne
answers_are_one at old (event.Local operation) a b x y sound h k = operations_one old a b x y (resolve old.volume.objects operation) h k
answers_are_one at old (event.Consume moment) a b x y sound h k = consume_one (is_at_end old) (made_at old moment) a b old x y sound.order.book.canonical h k
answers_are_one at old event.Vector a b x y sound (p, q) (r, s) = (p ∙ sym r, q ∙ sym s)
answers_are_one at old (event.File uid) a b x y sound (p, q) (r, s) = (p ∙ sym r, q ∙ sym s)
answers_are_one at old (event.Adopt from place u form) a b x y sound h k = adopt_one (adopt_refusal old u) u form a b old x y sound.order.book.canonical h k
answers_are_one at old (event.Finish from place sent seen) a b x y sound (inl (n, least, p)) (inl (m, lesser, q)) =
    (p.0 ∙ (ap (λ k. reply.Refused (why.OwnAhead k)) (least_one old sent n m least lesser) ∙ sym q.0), p.1 ∙ sym q.1)
answers_are_one at old (event.Finish from place sent seen) a b x y sound (inl (n, least, p)) (inr (none, k)) = absurd (none n least.0)
answers_are_one at old (event.Finish from place sent seen) a b x y sound (inr (none, h)) (inl (m, least, q)) = absurd (none m least.0)
answers_are_one at old (event.Finish from place sent seen) a b x y sound (inr (none, h)) (inr (never, k)) =
    choice_one (first_unheld old.book.records seen) _ _ (λ u. why.Unheld u.uid) a b old x y sound.order.book.canonical h k
answers_are_one at old event.Install a b x y sound h k = install_one old a b x y sound h k

-- and a run of events
pub runs_are_one : RunsAreOne
runs_are_one at old [] [] [] x y h k = (refl, h ∙ sym k)
runs_are_one at old [] [] (r ∷ rs) x y h k = absurd k
runs_are_one at old [] (r ∷ rs) b x y h k = absurd h
runs_are_one at old (e ∷ es) [] b x y h k = absurd h
runs_are_one at old (e ∷ es) (r ∷ rs) [] x y h k = absurd k
runs_are_one at old (e ∷ es) (r ∷ rs) (s ∷ ss) x y (mid, sound, h, more) (next, too, k, rest) =
    let one = answers_are_one at old e r s mid next sound h k in
    let others = runs_are_one (at + 1) next es rs ss x y (subst (λ m. Runs (at + 1) m es rs x) one.1 more) rest in
    ((λ i. one.0 i ∷ others.0 i), others.1)
