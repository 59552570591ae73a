use Rattle.std.proofs.Common.{◌≡◌, ◌++◌, ℕ, List, codes, string_bytes, refl, sym, ap, ap₂, ◌∙◌, arith, append_assoc}
use Rattle.std.proofs.lemmas.Grind.{common_steps}
use Rattle.std.proofs.lemmas.Result.{IfOk-weaker}
use Rattle.cert_form.specs.Form.{part}
use Rattle.cert_checker.specs.Parts.{part_of, kind_name, row_name}
use Rattle.cert_checker.specs.Paths.{path_of}
use Rattle.cert_checker.specs.declared.full_part.Row.{Row}
use Rattle.cert_checker.specs.declared.full_part.Row.TheVariants as row
use Rattle.cert_checker.specs.declared.full_part.Kind.{Kind}
use Rattle.cert_checker.specs.declared.full_part.Kind.TheVariants as kind
use Rattle.cert_checker.specs.declared.full_part.Part.TheVariants as found
use Rattle.cert_checker.proofs.full_part.text_of.Goals as goal

-- the path of a place of a stage
staged : ℕ → ℕ → List ℕ → List ℕ → ℕ → List ℕ
staged r b kind row i =
    part ((part (part (codes "/rounds") r) b ++ codes "/" ++ kind) ++ codes "/" ++ row) i

stage_path : (r b : ℕ) (k : Kind) (w : Row) (i : ℕ)
    → staged r b (kind_name k) (row_name w) i
    ≡ path_of (part_of (found.Stage r b k (record { row = w; index = i })))
unfolding staged
stage_path r b kind.Orbit row.List i = refl
stage_path r b kind.Orbit row.Gens i = refl
stage_path r b kind.Orbit row.Pairs i = refl
stage_path r b kind.Orbit row.Links i = refl
stage_path r b kind.Meet row.List i = refl
stage_path r b kind.Meet row.Gens i = refl
stage_path r b kind.Meet row.Pairs i = refl
stage_path r b kind.Meet row.Links i = refl

pub returns-in-Step : goal.returns-in-Step
returns-in-Step c =
    let whole = ap (λ p. path_of (part_of p)) c.in-Step.is in
    IfOk-weaker c.format-in-Step.result _ _ (λ text is.
    let said : string_bytes text ≡ part (part (codes "/steps") c.in-Step.branch) c.in-Step.element =
    grind (arith, common_steps) in said ∙ sym whole) c.format-in-Step.ensures.ok

pub returns-in-Stage : goal.returns-in-Stage
unfolding staged
returns-in-Stage c =
    let r = c.in-Stage.round in
    let b = c.in-Stage.branch in
    let i = c.in-Stage.place.index in
    let names = ap₂ (λ k w. staged r b k w i) c.kind_name-kind.ensures c.row_name-row.ensures in
    let whole = names ∙ stage_path r b c.in-Stage.kind c.in-Stage.place.row i
    ∙ sym (ap (λ p. path_of (part_of p)) c.in-Stage.is) in
    IfOk-weaker c.format-in-Stage.result _ _ (λ text is.
    let said : string_bytes text
    ≡ staged r b c.kind_name-kind.result.now c.row_name-row.result.now i
    = is ∙ simp append_assoc in said ∙ whole) c.format-in-Stage.ensures.ok
