-- Readings of members, one behind another.
--   member_as       a member is read as what stands at its path
--   table_as        so is a list of lists, where there are as many of all
--   BeginsWith      the first parts of a full certificate are read as these
--   object_there    the members of an object, where the value is one
use Rattle.std.proofs.Common.{◌≡◌, ℕ, List, length, Ok, sym, ap, ap₂, ◌∙◌}
use Rattle.std.specs.Prelude.{Option, true, is_some, codes}
use Rattle.serde_json.specs.Data.{Data}
use Rattle.serde_json.specs.Find.{get, as_object}
use Rattle.algebra.specs.Fraction.{Fraction}
use Rattle.polynomials.specs.Order.{Rank, grevlex}
use Rattle.polynomials.specs.Terms.{Terms}
use Rattle.loops.specs.Program.{Expr, Program}
use Rattle.cert_form.specs.Form.{Reading, expect}
use Rattle.cert_form.specs.Path.{member_path}
use Rattle.corollaries.specs.Full.{WrittenForm}
use Rattle.full_cert.specs.Tables.{raws_at, table_at}
use Rattle.full_cert.specs.PartsForm.{object_at, member_by, steps_at, forms_at}

pub member_as : {A : Type 0} (f : List ℕ → Option Data → Reading A) (path name : List ℕ) (d : Data)
    {p : List ℕ} {o : Option Data} {r : Reading A} → p ≡ member_path path name → o ≡ get name d
    → f p o ≡ r → member_by f path name d ≡ r
member_as f path name d {p = p} at is h =
    ap (λ x. f x (get name d)) (sym at) ∙ ap (f p) (sym is) ∙ h

pub table_as : (O : Rank) (m : ℕ) (path name : List ℕ) (d : Data) {a b rows n : ℕ} {p : List ℕ}
    {o : Option Data} {r : Reading (List (List (Terms Fraction)))} → a ≡ rows → b ≡ n
    → p ≡ member_path path name → o ≡ get name d → table_at a b O m p o ≡ r
    → member_by (table_at rows n O m) path name d ≡ r
table_as O m path name d {a = a} {b = b} height width at is h =
    ap₂ (λ x y. member_by (table_at x y O m) path name d) (sym height) (sym width)
    ∙ member_as (table_at a b O m) path name d at is h

pub object_there : {A : Type 0} (path : List ℕ) (d : Data) (r : Reading A)
    → is_some (as_object d) ≡ true → object_at path d r ≡ r
object_there path d r h = ap (λ b. expect b path r) h

pub record BeginsWith {At : Type 0} (program : Program (Expr At)) (d : Data)
    (basis : List (Terms Fraction)) (steps : List (List (List (Terms Fraction))))
    (forms : List WrittenForm) : Type 0 where
  pub basis_is : raws_at grevlex (length program.names) (codes "/basis") (get (codes "basis") d)
      ≡ Ok basis
  pub steps_are : steps_at (length program.names) (length basis) (length program.branches)
      (codes "/steps") (get (codes "steps") d) ≡ Ok steps
  pub forms_are : forms_at (length program.names) (length program.branches) (codes "/forms")
      (get (codes "forms") d) ≡ Ok forms
