-- Requests keep the laws.
use Rattle.std.proofs.Common.{◌≡◌, ◌∙◌, ℕ, ◌+◌, true, eqb, List, [], ◌++◌, Ok, length, inl, inr, refl, sym, ap, arith}
use Rattle.std.proofs.lemmas.Bool.{eqb-true}
use Rattle.std.proofs.lemmas.List.{append-nil}
use Rattle.ndr_core.specs.Cursor.{Cursor}
use Rattle.ndr_core.specs.Items.{AreBytes}
use Rattle.ndr_core.specs.Laws.{IsLawful}
use Rattle.ndr_core.proofs.Arrays.{conformant_lawful, lawful_many}
use Rattle.ndr_core.proofs.Bytes.{number_32_lawful, number_64_lawful}
use Rattle.ndr_core.proofs.Identifiers.{guid_lawful, handle_lawful}
use Rattle.ndr_core.proofs.Words.{◌⊗◌, lawful_fixed, lawful_then, lawful_where}
use Rattle.ndr_frs.specs.Stubs.{all_of, in_stub}
use Rattle.ndr_frs.specs.Laws.{RequestsAreExact}
use Rattle.ndr_frs.specs.Requests.{IsStatedRequest, IsRequest, SpellsRequest, as_check, as_close, as_connection, as_data, as_file, as_page, as_poll, as_session, as_vector, check_item, close_item, connection_item, data_item, file_item, page_item, poll_item, request_appends, request_number, request_of, request_reads, session_item, vector_item}
use Rattle.ndr_frs.specs.declared.request.FrsRequest.{FrsRequest}
use Rattle.ndr_frs.specs.declared.request.FrsRequest.TheVariants as forms
use Rattle.ndr_frs.proofs.OneRequest.{requests_alike}
use Rattle.ndr_frs.proofs.Shared.{below_lawful, interval_lawful, update_lawful}
use Rattle.ndr_frs.proofs.Stated.{request_stated}
use Rattle.ndr_frs.proofs.Stubs.{all_done, begins_in, behind, branch, front_in, none, refused_twice, same, spelled_in, start, written_by}

-- ---- the layout of each keeps the laws of items

check_lawful : IsLawful check_item (λ t. IsRequest (as_check t))
check_lawful = lawful_where (λ t. IsRequest (as_check t)) (λ t is. is)
    (guid_lawful ⊗ guid_lawful)

connection_lawful : IsLawful connection_item (λ t. IsRequest (as_connection t))
connection_lawful = lawful_where (λ t. IsRequest (as_connection t)) (λ t is. (is.0, (is.1, (is.2, is.3))))
    (guid_lawful ⊗ (guid_lawful ⊗ (number_32_lawful ⊗ number_32_lawful)))

session_lawful : IsLawful session_item (λ t. IsRequest (as_session t))
session_lawful = lawful_where (λ t. IsRequest (as_session t)) (λ t is. is)
    (guid_lawful ⊗ guid_lawful)

page_lawful : IsLawful page_item (λ t. IsRequest (as_page t))
page_lawful = lawful_where (λ t. IsRequest (as_page t)) (λ t is. (is.3, (is.4, (is.5, (is.6, ((is.0, omega (arith, is.0)), (omega (arith, is.1, is.2), ((omega (arith, is.1, is.2), omega (arith, is.1, is.2)), (sym is.1, is.7)))))))))
    (guid_lawful ⊗ (guid_lawful ⊗ (number_32_lawful ⊗ (number_32_lawful ⊗ (below_lawful 3 ⊗ lawful_then number_32_lawful (λ said. lawful_fixed 4 said (conformant_lawful 131072) ⊗ lawful_many said interval_lawful))))))

vector_lawful : IsLawful vector_item (λ t. IsRequest (as_vector t))
vector_lawful = lawful_where (λ t. IsRequest (as_vector t)) (λ t is. (is.2, (is.3, (is.4, ((is.0, omega (arith, is.0)), ((is.1, omega (arith, is.1)), is.5))))))
    (number_32_lawful ⊗ (guid_lawful ⊗ (guid_lawful ⊗ (below_lawful 1 ⊗ (below_lawful 2 ⊗ number_64_lawful)))))

poll_lawful : IsLawful poll_item (λ t. IsRequest (as_poll t))
poll_lawful = lawful_where (λ t. IsRequest (as_poll t)) (λ t is. is)
    (guid_lawful)

data_lawful : IsLawful data_item (λ t. IsRequest (as_data t))
data_lawful = lawful_where (λ t. IsRequest (as_data t)) (λ t is. is)
    (handle_lawful ⊗ number_32_lawful)

close_lawful : IsLawful close_item (λ t. IsRequest (as_close t))
close_lawful = lawful_where (λ t. IsRequest (as_close t)) (λ t is. is)
    (handle_lawful)

file_lawful : IsLawful file_item (λ t. IsRequest (as_file t))
file_lawful = lawful_where (λ t. IsRequest (as_file t)) (λ t is. (is.0, (is.1, (is.2, (is.3, is.4)))))
    (guid_lawful ⊗ (update_lawful ⊗ (number_32_lawful ⊗ (number_32_lawful ⊗ number_32_lawful))))

-- ---- what is spelled is read

-- a stub that begins with a spelling
front : (opnum : ℕ) (text rest : List ℕ) (q : FrsRequest) → SpellsRequest opnum q text → request_reads opnum (start (text ++ rest)) ≡ Ok (q, behind text rest)
unfolding request_reads
front opnum text rest (forms.CheckConnectivity replica_set connection) s = ap (λ (n : ℕ). request_reads n (start (text ++ rest))) s.0 ∙ ap in_stub (front_in check_item _ check_lawful as_check text rest (replica_set, connection) s.1)
front opnum text rest (forms.EstablishConnection replica_set connection version flags) s = ap (λ (n : ℕ). request_reads n (start (text ++ rest))) s.0 ∙ ap in_stub (front_in connection_item _ connection_lawful as_connection text rest (replica_set, (connection, (version, flags))) s.1)
front opnum text rest (forms.EstablishSession connection content_set) s = ap (λ (n : ℕ). request_reads n (start (text ++ rest))) s.0 ∙ ap in_stub (front_in session_item _ session_lawful as_session text rest (connection, content_set) s.1)
front opnum text rest (forms.RequestUpdates connection content_set credits hash_requested kind diff_count diff) s = ap (λ (n : ℕ). request_reads n (start (text ++ rest))) s.0 ∙ ap in_stub (front_in page_item _ page_lawful as_page text rest (connection, (content_set, (credits, (hash_requested, (kind, (diff_count, (tt, diff))))))) s.1)
front opnum text rest (forms.RequestVersionVector sequence connection content_set request_type change_type generation) s = ap (λ (n : ℕ). request_reads n (start (text ++ rest))) s.0 ∙ ap in_stub (front_in vector_item _ vector_lawful as_vector text rest (sequence, (connection, (content_set, (request_type, (change_type, generation))))) s.1)
front opnum text rest (forms.AsyncPoll connection) s = ap (λ (n : ℕ). request_reads n (start (text ++ rest))) s.0 ∙ ap in_stub (front_in poll_item _ poll_lawful as_poll text rest connection s.1)
front opnum text rest (forms.RawGetFileData handle buffer_size) s = ap (λ (n : ℕ). request_reads n (start (text ++ rest))) s.0 ∙ ap in_stub (front_in data_item _ data_lawful as_data text rest (handle, buffer_size) s.1)
front opnum text rest (forms.RdcClose handle) s = ap (λ (n : ℕ). request_reads n (start (text ++ rest))) s.0 ∙ ap in_stub (front_in close_item _ close_lawful as_close text rest handle s.1)
front opnum text rest (forms.InitializeFileTransferAsync connection update rdc_desired policy buffer_size) s = ap (λ (n : ℕ). request_reads n (start (text ++ rest))) s.0 ∙ ap in_stub (front_in file_item _ file_lawful as_file text rest (connection, (update, (rdc_desired, (policy, buffer_size)))) s.1)

only : (opnum : ℕ) (stub : List ℕ) (q : FrsRequest) → SpellsRequest opnum q stub → request_of opnum stub ≡ Ok q
only opnum stub q s = ap (request_of opnum) (sym (append-nil stub)) ∙ ap all_of (front opnum stub [] q s)

-- with more behind it, it is no spelling
begins : (opnum : ℕ) (text rest : List ℕ) (q r : FrsRequest) → SpellsRequest opnum q text → SpellsRequest opnum r (text ++ rest) → (q ≡ r) × (rest ≡ [])
begins opnum text rest q r s t = begins_in (request_reads opnum (start (text ++ rest))) text rest q r (front opnum text rest q s) (only opnum (text ++ rest) r t)

-- ---- what is read is spelled

pub found : (opnum : ℕ) (stub : List ℕ) (q : FrsRequest) → AreBytes stub → request_of opnum stub ≡ Ok q → SpellsRequest opnum q stub
unfolding request_reads
found opnum stub q are read =
    elim (branch (eqb opnum 0) _ _ q read) [
      | inl of_check ↦ spelled_in check_item _ check_lawful as_check (λ r. SpellsRequest opnum r stub) stub q are (λ t s. (eqb-true opnum 0 of_check.0, s)) of_check.1
      | inr of_check ↦ elim (branch (eqb opnum 1) _ _ q of_check.1) [
        | inl of_connection ↦ spelled_in connection_item _ connection_lawful as_connection (λ r. SpellsRequest opnum r stub) stub q are (λ t s. (eqb-true opnum 1 of_connection.0, s)) of_connection.1
        | inr of_connection ↦ elim (branch (eqb opnum 2) _ _ q of_connection.1) [
          | inl of_session ↦ spelled_in session_item _ session_lawful as_session (λ r. SpellsRequest opnum r stub) stub q are (λ t s. (eqb-true opnum 2 of_session.0, s)) of_session.1
          | inr of_session ↦ elim (branch (eqb opnum 3) _ _ q of_session.1) [
            | inl of_page ↦ spelled_in page_item _ page_lawful as_page (λ r. SpellsRequest opnum r stub) stub q are (λ t s. (eqb-true opnum 3 of_page.0, s)) of_page.1
            | inr of_page ↦ elim (branch (eqb opnum 4) _ _ q of_page.1) [
              | inl of_vector ↦ spelled_in vector_item _ vector_lawful as_vector (λ r. SpellsRequest opnum r stub) stub q are (λ t s. (eqb-true opnum 4 of_vector.0, s)) of_vector.1
              | inr of_vector ↦ elim (branch (eqb opnum 5) _ _ q of_vector.1) [
                | inl of_poll ↦ spelled_in poll_item _ poll_lawful as_poll (λ r. SpellsRequest opnum r stub) stub q are (λ t s. (eqb-true opnum 5 of_poll.0, s)) of_poll.1
                | inr of_poll ↦ elim (branch (eqb opnum 8) _ _ q of_poll.1) [
                  | inl of_data ↦ spelled_in data_item _ data_lawful as_data (λ r. SpellsRequest opnum r stub) stub q are (λ t s. (eqb-true opnum 8 of_data.0, s)) of_data.1
                  | inr of_data ↦ elim (branch (eqb opnum 12) _ _ q of_data.1) [
                    | inl of_close ↦ spelled_in close_item _ close_lawful as_close (λ r. SpellsRequest opnum r stub) stub q are (λ t s. (eqb-true opnum 12 of_close.0, s)) of_close.1
                    | inr of_close ↦ elim (branch (eqb opnum 13) _ _ q of_close.1) [
                      | inl of_file ↦ spelled_in file_item _ file_lawful as_file (λ r. SpellsRequest opnum r stub) stub q are (λ t s. (eqb-true opnum 13 of_file.0, s)) of_file.1
                      | inr of_file ↦ absurd (none q of_file.1)
                    ]
                  ]
                ]
              ]
            ]
          ]
        ]
      ]
    ]

-- and has the stated values
pub read_stated : (opnum : ℕ) (stub : List ℕ) (begin end : Cursor) (q : FrsRequest) → AreBytes stub → begin ≡ start stub → request_reads opnum begin ≡ Ok (q, end) → true ≡ eqb (length end.rest) 0 → IsStatedRequest q
read_stated opnum stub begin end q are at read done =
    request_stated opnum stub q (found opnum stub q are (all_done (request_reads opnum (start stub)) q end (ap (request_reads opnum) (sym at) ∙ read) (sym done)))

-- ---- what is written is spelled

written : (q : FrsRequest) → IsRequest q → SpellsRequest (request_number q) q (request_appends q [])
written (forms.CheckConnectivity replica_set connection) is = (refl, written_by check_item _ check_lawful (replica_set, connection) is)
written (forms.EstablishConnection replica_set connection version flags) is = (refl, written_by connection_item _ connection_lawful (replica_set, (connection, (version, flags))) is)
written (forms.EstablishSession connection content_set) is = (refl, written_by session_item _ session_lawful (connection, content_set) is)
written (forms.RequestUpdates connection content_set credits hash_requested kind diff_count diff) is = (refl, written_by page_item _ page_lawful (connection, (content_set, (credits, (hash_requested, (kind, (diff_count, (tt, diff))))))) is)
written (forms.RequestVersionVector sequence connection content_set request_type change_type generation) is = (refl, written_by vector_item _ vector_lawful (sequence, (connection, (content_set, (request_type, (change_type, generation))))) is)
written (forms.AsyncPoll connection) is = (refl, written_by poll_item _ poll_lawful connection is)
written (forms.RawGetFileData handle buffer_size) is = (refl, written_by data_item _ data_lawful (handle, buffer_size) is)
written (forms.RdcClose handle) is = (refl, written_by close_item _ close_lawful handle is)
written (forms.InitializeFileTransferAsync connection update rdc_desired policy buffer_size) is = (refl, written_by file_item _ file_lawful (connection, (update, (rdc_desired, (policy, buffer_size)))) is)

pub are_exact : RequestsAreExact
are_exact = record {
  found = found;
  only = only;
  begins = begins;
  one = λ opnum stub x y s t. same x y (sym (only opnum stub x s) ∙ only opnum stub y t);
  alike = requests_alike;
  refused = λ opnum stub bad q e s. refused_twice bad q (sym e ∙ only opnum stub q s);
  written = written;
  back = λ q is. only (request_number q) (request_appends q []) q (written q is);
}
