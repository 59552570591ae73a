-- What is found at points of the code, by the lists of their nodes.
--   HasGoalIn list p           the goal of the point, if it has one, has the variables of the list;  HasGoalOver n p: it has n
--   CanBeFound g c             each point of the graph has a list, and its goal the variables of the lists
--   IsFound ps p f             f says of the point whether its goal is one of the polynomials ps;  AreFound lists v ps fs: of points in turn, the first of which is the node v
--   IsAnswerOf text lists ps a     a calls the certificate valid, and tells what is found at the points of the text
use Rattle.std.specs.Prelude.{◌≡◌, ◌↔◌, ⊤, ℕ, suc, ◌<◌, Bool, true, List, [], ◌∷◌, All, get_or, length, Option, Some, None, IfSome}
use Rattle.algebra.specs.Fraction.{Fraction}
use Rattle.polynomials.specs.Terms.{Terms}
use Rattle.poly.specs.Seen.{terms_in}
use Rattle.loop_model.specs.FracPoly.{FracPoly}
use Rattle.cert_form.specs.Cert.{Polys, HaveArity}
use Rattle.program_model.specs.declared.graph.Point.{Point}
use Rattle.program_model.specs.declared.graph.Graph.{Graph}
use Rattle.program_checker.specs.declared.cert.ProgramCert.{ProgramCert}
use Rattle.io_edge.specs.Texts.{Answer}
use Rattle.checkproof_command.specs.Texts.{Finding, valid, judgement_answer}
use Rattle.checkproof_command.specs.Judging.{IsListed}

abbrev pub HasGoalIn : Polys → Point → Type 0
HasGoalIn list p = IfSome p.goal (λ g. HaveArity g.arity list)

abbrev pub HasGoalOver : ℕ → Point → Type 0
HasGoalOver n p = IfSome p.goal (λ g. g.arity ≡ n)

pub record CanBeFound (g : Graph) (c : ProgramCert) : Type 0 where
  pub count : length g.points.items < length c.lists.items
  pub lists : All (HaveArity g.variables) c.lists.items
  pub goals : All (HasGoalOver g.variables) g.points.items

abbrev pub IsSaid : List (Terms Fraction) → Option FracPoly → Option Bool → Type 0
IsSaid ps None None = ⊤
IsSaid ps None (Some b) = ⊥
IsSaid ps (Some g) None = ⊥
IsSaid ps (Some g) (Some b) = (b ≡ true) ↔ IsListed ps (terms_in g)

pub record IsFound (ps : List (Terms Fraction)) (p : Point) (f : Finding) : Type 0 where
  pub at : f.at ≡ p.at
  pub is_said : IsSaid ps p.goal f.listed

module _ (lists : List (List (Terms Fraction))) where
  abbrev pub AreFound : ℕ → List Point → List Finding → Type 0
  AreFound v [] [] = ⊤
  AreFound v [] (f ∷ fs) = ⊥
  AreFound v (p ∷ ps) [] = ⊥
  AreFound v (p ∷ ps) (f ∷ fs) = IsFound (get_or lists v []) p f × AreFound (suc v) ps fs

pub record IsAnswerOf (text : List ℕ) (lists : List (List (Terms Fraction))) (ps : List Point)
    (a : Answer) : Type 0 where
  pub findings : List Finding
  pub are_found : AreFound lists 1 ps findings
  pub says : a ≡ judgement_answer text (valid findings)
