-- The text of a full certificate is read as it.
--   text_back      the bytes of its document
--   without_blanks and so with none behind it
use Rattle.std.proofs.Common.{◌≡◌, ℕ, ◌<◌, List, [], ◌++◌, append-nil, length, map, sym, ap, subst, ◌∙◌, Ok}
use Rattle.std.specs.Prelude.{Some}
use Rattle.std.specs.Option.{ok_or}
use Rattle.std.proofs.lemmas.List.{length-map}
use Rattle.serde_json.specs.Data.{Data}
use Rattle.loop_model.specs.Parts.{statement_of}
use Rattle.loop_model.specs.declared.loop_.Loop.{Loop}
use Rattle.loop_model.specs.View.{program_of}
use Rattle.cert_form.specs.Form.{on, document, not_json}
use Rattle.cert_form.specs.Written.{AreBlanks}
use Rattle.corollaries.specs.Full.{FullCertificate}
use Rattle.corollaries.specs.Counts.{IsCounted}
use Rattle.full_cert.specs.Form.{full_value, full_in}
use Rattle.task_lists.specs.Images.{IsFullIn}
use Rattle.task_lists.specs.View.{full_of}
use Rattle.task_lists.specs.declared.parts.FullCert.{FullCert}
use Rattle.full_cert.specs.Narrow.{IsFullNarrow}
use Rattle.full_cert.specs.Written.{full_data}
use Rattle.full_cert.proofs.Readable.{full_readable}
use Rattle.full_cert.proofs.WholeBack.{value_back}

some_branch : (lp : Loop) → 0 < length (program_of lp).branches
some_branch lp = subst (λ n. 0 < n) (sym (length-map lp.branches.items
    (λ b. map statement_of b.items))) lp.some_branch

module _ (lp : Loop) (cert : FullCert) (images : IsFullIn (length (program_of lp).names) cert)
    (counted : IsCounted (program_of lp) (full_of cert)) where
  abbrev c : FullCertificate
  c = full_of cert

  pub text_back : (names : List (List ℕ)) → names ≡ (program_of lp).names → IsFullNarrow c
      → (bytes : List ℕ) → document bytes ≡ Some (full_data names c)
      → full_in (program_of lp) bytes ≡ Ok c
  unfolding full_in
  text_back names same narrow bytes there =
      ap (λ o. on (full_value (program_of lp)) (ok_or o not_json)) there
      ∙ value_back (program_of lp) c names same
      (full_readable (program_of lp) cert images narrow counted) counted (some_branch lp)

pub without_blanks : (text : List ℕ) (d : Data)
    → ((blanks : List ℕ) → AreBlanks blanks → document (text ++ blanks) ≡ Some d)
    → document text ≡ Some d
without_blanks text d h = subst (λ t. document t ≡ Some d) (append-nil text) (h [] tt)
