-- Replies keep the laws.
use Rattle.std.proofs.Common.{◌≡◌, ◌∙◌, ℕ, ◌+◌, ◌^◌, ◌<◌, ◌==◌, ◌||◌, true, eqb, List, [], ◌++◌, Option, None, Some, Ok, length, inl, inr, refl, sym, ap, arith}
use Rattle.std.specs.Prelude.{IfSome}
use Rattle.std.proofs.lemmas.Bool.{eqb-true}
use Rattle.std.proofs.lemmas.List.{append-nil}
use Rattle.version_vector.specs.declared.interval.Interval.{Interval}
use Rattle.ndr_core.specs.Cursor.{Cursor}
use Rattle.ndr_core.specs.Items.{AreBytes}
use Rattle.ndr_core.specs.Laws.{IsLawful}
use Rattle.ndr_core.proofs.Bytes.{number_32_lawful, number_64_lawful}
use Rattle.ndr_core.proofs.Identifiers.{guid_lawful, handle_lawful}
use Rattle.ndr_core.proofs.Optional.{optional_lawful}
use Rattle.ndr_core.proofs.Words.{◌⊗◌, lawful_checked, lawful_where}
use Rattle.ndr_frs.specs.Stubs.{all_of, in_stub}
use Rattle.ndr_frs.specs.Laws.{RepliesAreExact}
use Rattle.ndr_frs.specs.Replies.{IsStatedReply, IsReply, IsStatus, IsVector, SpellsReply, as_check, as_close, as_connection, as_data, as_file, as_page, as_poll, as_session, as_vector, check_item, close_item, connection_item, data_item, file_item, page_item, poll_item, reply_appends, reply_number, reply_of, reply_reads, session_item, status_item, vector_item}
use Rattle.ndr_frs.specs.declared.reply.FrsReply.{FrsReply}
use Rattle.ndr_frs.specs.declared.reply.FrsReply.TheVariants as forms
use Rattle.ndr_frs.proofs.OneReply.{replies_alike}
use Rattle.ndr_frs.proofs.Shared.{IsIntervals, below_lawful, bytes_lawful, intervals_lawful, update_lawful, updates_lawful}
use Rattle.ndr_frs.proofs.Stated.{reply_stated}
use Rattle.ndr_frs.proofs.Stubs.{all_done, begins_in, behind, branch, front_in, none, refused_twice, same, spelled_in, start, written_by}

-- ---- fields of replies alone

status_true : (n : ℕ) → IsStatus n → (n == 0 || n == 2 || n == 3) ≡ true
status_true n (inl e) = rw e refl
status_true n (inr (inl e)) = rw e refl
status_true n (inr (inr e)) = rw e refl

status_small : (n : ℕ) → IsStatus n → n < 2 ^ 32
status_small n (inl e) = omega (arith, e)
status_small n (inr (inl e)) = omega (arith, e)
status_small n (inr (inr e)) = omega (arith, e)

status_lawful : IsLawful status_item (λ n. ((n == 0 || n == 2 || n == 3) ≡ true) × (n < 2 ^ 32))
status_lawful = lawful_checked 4 (λ n. n == 0 || n == 2 || n == 3) number_32_lawful

status_fits : (n : ℕ) → IsStatus n → ((n == 0 || n == 2 || n == 3) ≡ true) × (n < 2 ^ 32)
status_fits n is = (status_true n is, status_small n is)

vector_fits : (vector : Option (List Interval)) → IfSome vector IsVector → IfSome vector (IsIntervals 65536)
vector_fits None is = tt
vector_fits (Some v) is = record { short = is.short; fits = omega (arith, is.short); each = is.each }

-- ---- the layout of each keeps the laws of items

check_lawful : IsLawful check_item (λ t. IsReply (as_check t))
check_lawful = lawful_where (λ t. IsReply (as_check t)) (λ t is. is)
    (number_32_lawful)

connection_lawful : IsLawful connection_item (λ t. IsReply (as_connection t))
connection_lawful = lawful_where (λ t. IsReply (as_connection t)) (λ t is. (is.0, (is.1, is.2)))
    (number_32_lawful ⊗ (number_32_lawful ⊗ number_32_lawful))

session_lawful : IsLawful session_item (λ t. IsReply (as_session t))
session_lawful = lawful_where (λ t. IsReply (as_session t)) (λ t is. is)
    (number_32_lawful)

page_lawful : IsLawful page_item (λ t. IsReply (as_page t))
unfolding page_item
page_lawful = lawful_where (λ t. IsReply (as_page t)) (λ t is. (record { limit = is.0; within = is.1; each = is.3 }, (is.4, (status_fits _ is.2, (is.5, (is.6, is.7))))))
    (updates_lawful ⊗ (number_32_lawful ⊗ (status_lawful ⊗ (guid_lawful ⊗ (number_64_lawful ⊗ number_32_lawful)))))

vector_lawful : IsLawful vector_item (λ t. IsReply (as_vector t))
vector_lawful = lawful_where (λ t. IsReply (as_vector t)) (λ t is. is)
    (number_32_lawful)

poll_lawful : IsLawful poll_item (λ t. IsReply (as_poll t))
poll_lawful = lawful_where (λ t. IsReply (as_poll t)) (λ t is. (is.2, ((is.0, omega (arith, is.0)), (is.3, (is.4, (vector_fits _ is.1, is.5))))))
    (number_32_lawful ⊗ (below_lawful 2 ⊗ (number_64_lawful ⊗ (number_32_lawful ⊗ (optional_lawful (intervals_lawful 65536) ⊗ number_32_lawful)))))

data_lawful : IsLawful data_item (λ t. IsReply (as_data t))
data_lawful = lawful_where (λ t. IsReply (as_data t)) (λ t is. (record { limit = is.0; within = is.1; bytes = is.3 }, (is.4, ((is.2, omega (arith, is.2)), is.5))))
    (bytes_lawful ⊗ (number_32_lawful ⊗ (below_lawful 2 ⊗ number_32_lawful)))

close_lawful : IsLawful close_item (λ t. IsReply (as_close t))
close_lawful = lawful_where (λ t. IsReply (as_close t)) (λ t is. is)
    (handle_lawful ⊗ number_32_lawful)

file_lawful : IsLawful file_item (λ t. IsReply (as_file t))
unfolding file_item
file_lawful = lawful_where (λ t. IsReply (as_file t)) (λ t is. (is.2, (is.3, (record { limit = is.0; within = is.1; bytes = is.4 }, (is.5, (is.6, (is.7, is.8)))))))
    (update_lawful ⊗ (handle_lawful ⊗ (bytes_lawful ⊗ (number_32_lawful ⊗ (number_32_lawful ⊗ (number_64_lawful ⊗ number_32_lawful))))))

-- ---- what is spelled is read

-- a stub that begins with a spelling
front : (opnum : ℕ) (text rest : List ℕ) (q : FrsReply) → SpellsReply opnum q text → reply_reads opnum (start (text ++ rest)) ≡ Ok (q, behind text rest)
unfolding reply_reads
front opnum text rest (forms.CheckConnectivity rc) s = ap (λ (n : ℕ). reply_reads n (start (text ++ rest))) s.0 ∙ ap in_stub (front_in check_item _ check_lawful as_check text rest rc s.1)
front opnum text rest (forms.EstablishConnection version flags rc) s = ap (λ (n : ℕ). reply_reads n (start (text ++ rest))) s.0 ∙ ap in_stub (front_in connection_item _ connection_lawful as_connection text rest (version, (flags, rc)) s.1)
front opnum text rest (forms.EstablishSession rc) s = ap (λ (n : ℕ). reply_reads n (start (text ++ rest))) s.0 ∙ ap in_stub (front_in session_item _ session_lawful as_session text rest rc s.1)
front opnum text rest (forms.RequestUpdates maximum updates count status gvsn_db gvsn_version rc) s = ap (λ (n : ℕ). reply_reads n (start (text ++ rest))) s.0 ∙ ap in_stub (front_in page_item _ page_lawful as_page text rest ((maximum, updates), (count, (status, (gvsn_db, (gvsn_version, rc))))) s.1)
front opnum text rest (forms.RequestVersionVector rc) s = ap (λ (n : ℕ). reply_reads n (start (text ++ rest))) s.0 ∙ ap in_stub (front_in vector_item _ vector_lawful as_vector text rest rc s.1)
front opnum text rest (forms.AsyncPoll sequence status generation count vector rc) s = ap (λ (n : ℕ). reply_reads n (start (text ++ rest))) s.0 ∙ ap in_stub (front_in poll_item _ poll_lawful as_poll text rest (sequence, (status, (generation, (count, (vector, rc))))) s.1)
front opnum text rest (forms.RawGetFileData maximum bytes size_read is_end rc) s = ap (λ (n : ℕ). reply_reads n (start (text ++ rest))) s.0 ∙ ap in_stub (front_in data_item _ data_lawful as_data text rest ((maximum, bytes), (size_read, (is_end, rc))) s.1)
front opnum text rest (forms.RdcClose handle rc) s = ap (λ (n : ℕ). reply_reads n (start (text ++ rest))) s.0 ∙ ap in_stub (front_in close_item _ close_lawful as_close text rest (handle, rc) s.1)
front opnum text rest (forms.InitializeFileTransferAsync update handle maximum bytes size_read is_end detail rc) s = ap (λ (n : ℕ). reply_reads n (start (text ++ rest))) s.0 ∙ ap in_stub (front_in file_item _ file_lawful as_file text rest (update, (handle, ((maximum, bytes), (size_read, (is_end, (detail, rc)))))) s.1)

only : (opnum : ℕ) (stub : List ℕ) (q : FrsReply) → SpellsReply opnum q stub → reply_of opnum stub ≡ Ok q
only opnum stub q s = ap (reply_of opnum) (sym (append-nil stub)) ∙ ap all_of (front opnum stub [] q s)

-- with more behind it, it is no spelling
begins : (opnum : ℕ) (text rest : List ℕ) (q r : FrsReply) → SpellsReply opnum q text → SpellsReply opnum r (text ++ rest) → (q ≡ r) × (rest ≡ [])
begins opnum text rest q r s t = begins_in (reply_reads opnum (start (text ++ rest))) text rest q r (front opnum text rest q s) (only opnum (text ++ rest) r t)

-- ---- what is read is spelled

pub found : (opnum : ℕ) (stub : List ℕ) (q : FrsReply) → AreBytes stub → reply_of opnum stub ≡ Ok q → SpellsReply opnum q stub
unfolding reply_reads
found opnum stub q are read =
    elim (branch (eqb opnum 0) _ _ q read) [
      | inl of_check ↦ spelled_in check_item _ check_lawful as_check (λ r. SpellsReply opnum r stub) stub q are (λ t s. (eqb-true opnum 0 of_check.0, s)) of_check.1
      | inr of_check ↦ elim (branch (eqb opnum 1) _ _ q of_check.1) [
        | inl of_connection ↦ spelled_in connection_item _ connection_lawful as_connection (λ r. SpellsReply opnum r stub) stub q are (λ t s. (eqb-true opnum 1 of_connection.0, s)) of_connection.1
        | inr of_connection ↦ elim (branch (eqb opnum 2) _ _ q of_connection.1) [
          | inl of_session ↦ spelled_in session_item _ session_lawful as_session (λ r. SpellsReply opnum r stub) stub q are (λ t s. (eqb-true opnum 2 of_session.0, s)) of_session.1
          | inr of_session ↦ elim (branch (eqb opnum 3) _ _ q of_session.1) [
            | inl of_page ↦ spelled_in page_item _ page_lawful as_page (λ r. SpellsReply opnum r stub) stub q are (λ t s. (eqb-true opnum 3 of_page.0, s)) of_page.1
            | inr of_page ↦ elim (branch (eqb opnum 4) _ _ q of_page.1) [
              | inl of_vector ↦ spelled_in vector_item _ vector_lawful as_vector (λ r. SpellsReply opnum r stub) stub q are (λ t s. (eqb-true opnum 4 of_vector.0, s)) of_vector.1
              | inr of_vector ↦ elim (branch (eqb opnum 5) _ _ q of_vector.1) [
                | inl of_poll ↦ spelled_in poll_item _ poll_lawful as_poll (λ r. SpellsReply opnum r stub) stub q are (λ t s. (eqb-true opnum 5 of_poll.0, s)) of_poll.1
                | inr of_poll ↦ elim (branch (eqb opnum 8) _ _ q of_poll.1) [
                  | inl of_data ↦ spelled_in data_item _ data_lawful as_data (λ r. SpellsReply opnum r stub) stub q are (λ t s. (eqb-true opnum 8 of_data.0, s)) of_data.1
                  | inr of_data ↦ elim (branch (eqb opnum 12) _ _ q of_data.1) [
                    | inl of_close ↦ spelled_in close_item _ close_lawful as_close (λ r. SpellsReply opnum r stub) stub q are (λ t s. (eqb-true opnum 12 of_close.0, s)) of_close.1
                    | inr of_close ↦ elim (branch (eqb opnum 13) _ _ q of_close.1) [
                      | inl of_file ↦ spelled_in file_item _ file_lawful as_file (λ r. SpellsReply opnum r stub) stub q are (λ t s. (eqb-true opnum 13 of_file.0, s)) of_file.1
                      | inr of_file ↦ absurd (none q of_file.1)
                    ]
                  ]
                ]
              ]
            ]
          ]
        ]
      ]
    ]

-- and has the stated values
pub read_stated : (opnum : ℕ) (stub : List ℕ) (begin end : Cursor) (q : FrsReply) → AreBytes stub → begin ≡ start stub → reply_reads opnum begin ≡ Ok (q, end) → true ≡ eqb (length end.rest) 0 → IsStatedReply q
read_stated opnum stub begin end q are at read done =
    reply_stated opnum stub q (found opnum stub q are (all_done (reply_reads opnum (start stub)) q end (ap (reply_reads opnum) (sym at) ∙ read) (sym done)))

-- ---- what is written is spelled

written : (q : FrsReply) → IsReply q → SpellsReply (reply_number q) q (reply_appends q [])
written (forms.CheckConnectivity rc) is = (refl, written_by check_item _ check_lawful rc is)
written (forms.EstablishConnection version flags rc) is = (refl, written_by connection_item _ connection_lawful (version, (flags, rc)) is)
written (forms.EstablishSession rc) is = (refl, written_by session_item _ session_lawful rc is)
written (forms.RequestUpdates maximum updates count status gvsn_db gvsn_version rc) is = (refl, written_by page_item _ page_lawful ((maximum, updates), (count, (status, (gvsn_db, (gvsn_version, rc))))) is)
written (forms.RequestVersionVector rc) is = (refl, written_by vector_item _ vector_lawful rc is)
written (forms.AsyncPoll sequence status generation count vector rc) is = (refl, written_by poll_item _ poll_lawful (sequence, (status, (generation, (count, (vector, rc))))) is)
written (forms.RawGetFileData maximum bytes size_read is_end rc) is = (refl, written_by data_item _ data_lawful ((maximum, bytes), (size_read, (is_end, rc))) is)
written (forms.RdcClose handle rc) is = (refl, written_by close_item _ close_lawful (handle, rc) is)
written (forms.InitializeFileTransferAsync update handle maximum bytes size_read is_end detail rc) is = (refl, written_by file_item _ file_lawful (update, (handle, ((maximum, bytes), (size_read, (is_end, (detail, rc)))))) is)

pub are_exact : RepliesAreExact
are_exact = record {
  found = found;
  only = only;
  begins = begins;
  one = λ opnum stub x y s t. same x y (sym (only opnum stub x s) ∙ only opnum stub y t);
  alike = replies_alike;
  refused = λ opnum stub bad q e s. refused_twice bad q (sym e ∙ only opnum stub q s);
  written = written;
  back = λ q is. only (reply_number q) (reply_appends q []) q (written q is);
}
