-- A full certificate is written, from its parts.
--   full_written     the object of its members is that of the full certificate, whose parts are narrow
use Rattle.std.proofs.Common.{◌≡◌, ℕ, List, ap₂, ◌∙◌}
use Rattle.std.specs.Prelude.{All}
use Rattle.serde_json.specs.Data.{string}
use Rattle.serde_json.specs.View.{view}
use Rattle.serde_json.specs.declared.value.Value.{Value}
use Rattle.cert_form.specs.Written.{list_data, IsWritten}
use Rattle.corollaries.specs.Full.{FullCertificate}
use Rattle.full_cert.specs.Narrow.{ArePolysNarrow, AreRowsNarrow, IsFormNarrow, IsStartNarrow, IsBranchNarrow, IsFullNarrow}
use Rattle.full_cert.specs.Written.{raws_data, steps_data, form_data, round_data, start_data, full_object, full_data}

module _ (names : List (List ℕ)) (c : FullCertificate) (b f r s t w v : Value)
    (basis : IsWritten raws_data ArePolysNarrow c.basis b)
    (forms : IsWritten (list_data form_data) (All IsFormNarrow) c.forms f)
    (rounds : IsWritten (list_data round_data) (All (All IsBranchNarrow)) c.rounds r)
    (start : IsWritten start_data IsStartNarrow (c.start_out, c.start_links) s)
    (steps : IsWritten steps_data (All AreRowsNarrow) c.steps t)
    (vars : view w ≡ list_data string names) where
  members : full_object (view b) (view f) (view r) (view s) (view t) (view w) ≡ full_data names c
  members =
      ap₂ (λ x y. full_object x y (view r) (view s) (view t) (view w)) basis.value forms.value
      ∙ ap₂ (λ x y. full_object (raws_data c.basis) (list_data form_data c.forms) x y (view t)
      (view w)) rounds.value start.value
      ∙ ap₂ (λ x y. full_object (raws_data c.basis) (list_data form_data c.forms)
      (list_data round_data c.rounds) (start_data (c.start_out, c.start_links)) x y) steps.value
      vars

  pub full_written : view v ≡ full_object (view b) (view f) (view r) (view s) (view t) (view w)
      → IsWritten (full_data names) IsFullNarrow c v
  full_written made = record {
    value = made ∙ members;
    holds = record {
      basis = basis.holds;
      steps = steps.holds;
      forms = forms.holds;
      out = start.holds.out;
      links = start.holds.links;
      rounds = rounds.holds;
    };
  }
