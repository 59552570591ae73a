-- A full certificate that is written is read as itself.
--   IsFullReadable program c     its polynomials are readable, and its bases short
--   value_back       its value is read as it
use Rattle.std.proofs.Common.{◌≡◌, ℕ, ◌<◌, ◌≤◌, List, length, refl, ap, ◌∙◌, Ok}
use Rattle.std.specs.Prelude.{All, codes}
use Rattle.std.proofs.lemmas.Slice.Eq.{bytes_eq-Decides}
use Rattle.serde_json.specs.Data.{Data}
use Rattle.serde_json.proofs.OnLiterals.{serde_json_on_literals}
use Rattle.polynomials.specs.Order.{grevlex}
use Rattle.polynomials.proofs.Orders.{grevlex_order}
use Rattle.loops.specs.Program.{Expr, Program}
use Rattle.solvable_maps.specs.Iterations.{width}
use Rattle.cert_form.specs.Form.{expect, has_names}
use Rattle.cert_form.proofs.ReadingBack.{the_texts}
use Rattle.corollaries.specs.Full.{FullCertificate, WrittenForm}
use Rattle.task_lists.specs.Images.{most_bases}
use Rattle.corollaries.specs.Counts.{IsCounted}
use Rattle.full_cert.specs.Form.{parts_of, full_value}
use Rattle.full_cert.specs.Narrow.{IsNarrowNumber}
use Rattle.full_cert.specs.Written.{full_data}
use Rattle.cert_form.proofs.Documents.{on_read}
use Rattle.full_cert.proofs.PartsBack.{AreReadable, AreRowsReadable, raws_back, steps_read, forms_read, start_reads}
use Rattle.full_cert.proofs.RoundsBack.{AreStagesReadable, rounds_read}

module _ {At : Type 0} (program : Program (Expr At)) (c : FullCertificate) where
  abbrev m : ℕ
  m = length program.names

  pub record IsFullReadable : Type 0 where
    pub basis : AreReadable grevlex m c.basis
    pub steps : All (AreRowsReadable grevlex m) c.steps
    pub few : All (λ (f : WrittenForm). length f.base ≤ most_bases) c.forms
    pub bases : All (λ (f : WrittenForm). All IsNarrowNumber f.base) c.forms
    pub polys : All (λ (f : WrittenForm). AreReadable grevlex (width (length f.base) m) f.polys)
        c.forms
    pub out : AreReadable grevlex m c.start_out
    pub links : AreRowsReadable grevlex m c.start_links
    pub stages : AreStagesReadable program c

  module _ (names : List (List ℕ)) (same : names ≡ program.names) (h : IsFullReadable)
      (counted : IsCounted program c) (some : 0 < length program.branches) where
    abbrev d : Data
    d = full_data program.names c

    parts_back : parts_of program d ≡ Ok c
    unfolding serde_json_on_literals
    parts_back =
        on_read _ (raws_back m grevlex_order (codes "/basis") c.basis h.basis)
        ∙ on_read _ (steps_read m (length c.basis) (length program.branches) (codes "/steps")
        c.steps
        counted.steps (λ i e l. record {
          height = (counted.squares i e l).height;
          widths = (counted.squares i e l).widths;
          are = h.steps i e l;
        }))
        ∙ on_read _ (forms_read m (length program.branches) (codes "/forms") c.forms counted.forms
        (λ i e l.
        record {
          few = h.few i e l;
          base = h.bases i e l;
          count = counted.polys i e l;
          polys = h.polys i e l;
        }))
        ∙ on_read _ (start_reads m (length program.init) (codes "/start") (
          c.start_out,
          c.start_links,
        ) (record {
          out = h.out;
          links = record { height = counted.links; widths = counted.links_widths; are = h.links };
        }))
        ∙ on_read _ (rounds_read program c counted h.stages some (codes "/rounds"))

    value_there : full_value program d ≡ Ok c
    unfolding serde_json_on_literals
    value_there =
        ap (λ x. expect x (codes "/kind") (expect (has_names program.names d) (codes "/vars")
        (parts_of program d))) ((bytes_eq-Decides (codes "full") (codes "full")).1 refl)
        ∙ ap (λ x. expect x (codes "/vars") (parts_of program d)) (the_texts program.names)
        ∙ parts_back

    pub value_back : full_value program (full_data names c) ≡ Ok c
    value_back = ap (λ ns. full_value program (full_data ns c)) same ∙ value_there
