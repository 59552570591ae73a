-- The lists that were read are the certificate that is kept.
--   kept_over          what a certificate keeps shows that its polynomials are in its variables
--   kept, cert_is      lists that were read may be kept, and are the certificate that was read
--   seen_length        as many things are seen as stand in the list
--   AreSquare n blocks     lists of n lists of n;  are_square: such as a certificate keeps
--   raws_length        as many polynomials were read as stand in the list
use Rattle.std.proofs.Common.{◌≡◌, ℕ, List, [], length, get_or, map, refl, sym, subst, ◌∙◌}
use Rattle.std.specs.Prelude.{All, vec_len, Vec}
use Rattle.std.specs.declared.alloc.Global.{Global}
use Rattle.std.proofs.lemmas.List.{length-map}
use Rattle.std.proofs.lemmas.Slice.Zip.{AllZip-long}
use Rattle.std.proofs.lemmas.List.Elements.{All-nil}
use Rattle.algebra.specs.Each.{Each}
use Rattle.algebra.specs.Fraction.{Fraction, ℚ}
use Rattle.polynomials.specs.Terms.{Terms, AllSame}
use Rattle.polynomials.specs.Polynomial.{IsPolynomial, AllArity}
use Rattle.polynomials.specs.Order.{grevlex}
use Rattle.poly.specs.Seen.{terms_in}
use Rattle.poly.specs.Standing.{IsInVariables, StandsFor}
use Rattle.poly.proofs.Standing.{polynomial_over, arities_over, stands_over, stands_same}
use Rattle.loops.specs.Certificate.{AreOver}
use Rattle.cert_form.specs.Cert.{Polys, certificate_of, polys_in, rows_in, blocks_in, ArePolysOf, IsRowOf, IsBlockOf, AreBlocksOf, AreStepsOf, HaveArity, IsSquare, IsWellSized, IsCertOf}
use Rattle.cert_form.proofs.Zip.{seen_all, at_or, all_from_left, zip_at}

none_over : (m : ℕ) → AllArity {A = Fraction} m []
unfolding Each
none_over m = tt

pub kept_over : (m : ℕ) (basis : Polys) (steps : Vec (Vec Polys Global) Global)
    → IsWellSized m basis steps → AreOver m (certificate_of basis steps)
kept_over m basis steps kept = record {
  arities = arities_over m basis.items kept.arities;
  cofactor_arities = λ b. at_or (AllArity m) (none_over m) _ (at_or (All (AllArity m))
      (All-nil (AllArity m)) _ blocks b);
}
  where
    blocks : All (All (AllArity m)) (blocks_in steps)
    blocks = seen_all (IsSquare m (vec_len basis)) (All (AllArity m)) rows_in (λ block s.
        seen_all (HaveArity m) (AllArity m) polys_in (λ row. arities_over m row.items) block.items
        s.arities) steps.items kept.squares

-- polynomials with what each has
record IsListOf (m : ℕ) (ps raws : List (Terms Fraction)) : Type 0 where
  same : AllSame ℚ ps raws
  polynomials : All (IsPolynomial ℚ grevlex m) ps

polys_are : (m : ℕ) (ps : Polys) (raws : List (Terms Fraction)) → ArePolysOf m ps raws
    → IsListOf m (polys_in ps) raws
polys_are m ps raws h = record {
  same = stands_same m ps.items raws h;
  polynomials = seen_all (IsInVariables m) (IsPolynomial ℚ grevlex m) terms_in (polynomial_over m)
      ps.items (stands_over m ps.items raws h);
}

none_are : (m : ℕ) → IsListOf m [] []
unfolding AllSame
none_are m = record { same = tt; polynomials = All-nil (IsPolynomial ℚ grevlex m) }

-- a block, place by place
record IsTableOf (m : ℕ) (rows raws : List (List (Terms Fraction))) : Type 0 where
  count : length rows ≡ length raws
  at : (i : ℕ) → IsListOf m (get_or rows i []) (get_or raws i [])

block_is : (m n : ℕ) (block : Vec Polys Global) (raws : List (List (Terms Fraction)))
    → IsBlockOf m n block raws → IsTableOf m (rows_in block) raws
block_is m n block raws h = record {
  count = length-map block.items polys_in
      ∙ sym (AllZip-long (IsRowOf m n) block.items raws h.alike);
  at = zip_at (IsRowOf m n) (IsListOf m) polys_in [] [] (λ row raw l. polys_are m row raw l.alike)
      (none_are m) block.items raws h.alike;
}

no_block_is : (m : ℕ) → IsTableOf m [] []
no_block_is m = record { count = refl; at = λ i. none_are m }

steps_are : (m n : ℕ) (steps : Vec (Vec Polys Global) Global)
    (raws : List (List (List (Terms Fraction)))) → AreBlocksOf m n steps raws
    → (b : ℕ) → IsTableOf m (get_or (blocks_in steps) b []) (get_or raws b [])
steps_are m n steps raws h = zip_at (IsBlockOf m n) (IsTableOf m) rows_in [] [] (block_is m n)
    (no_block_is m) steps.items raws h

square : (m n : ℕ) (block : Vec Polys Global) (raws : List (List (Terms Fraction)))
    → IsBlockOf m n block raws → IsSquare m n block
square m n block raws h = record {
  height = h.height;
  widths = all_from_left (IsRowOf m n) (λ row. vec_len row ≡ n) (λ row raw l. l.width) block.items
      raws h.alike;
  arities = all_from_left (IsRowOf m n) (HaveArity m) (λ row raw l.
      stands_over m row.items raw l.alike) block.items raws h.alike;
}

pub seen_length : {X Y : Type 0} (f : X → Y) (v : Vec X Global) → length (map f v.items) ≡ vec_len v
seen_length f v = length-map v.items f ∙ sym v.ok.0

pub record AreSquare (n : ℕ) (blocks : List (List (List (Terms Fraction)))) : Type 0 where
  pub heights : All (λ rows. length rows ≡ n) blocks
  pub widths : All (All (λ row. length row ≡ n)) blocks

pub are_square : (m n : ℕ) (steps : Vec (Vec Polys Global) Global) → All (IsSquare m n) steps.items
    → AreSquare n (blocks_in steps)
are_square m n steps squares = record {
  heights = seen_all (IsSquare m n) (λ rows. length rows ≡ n) rows_in (λ block s.
      seen_length polys_in block ∙ s.height) steps.items squares;
  widths = seen_all (IsSquare m n) (All (λ row. length row ≡ n)) rows_in (λ block s.
      seen_all (λ row. vec_len row ≡ n) (λ row. length row ≡ n) polys_in (λ row w.
      seen_length terms_in row ∙ w) block.items s.widths) steps.items squares;
}

pub resized : {m k n branches : ℕ} {steps : Vec (Vec Polys Global) Global}
    {raws : List (List (List (Terms Fraction)))} → k ≡ n → AreStepsOf m k branches steps raws
    → AreStepsOf m n branches steps raws
resized {m = m} {branches = branches} {steps = steps} {raws = raws} same =
    subst (λ n. AreStepsOf m n branches steps raws) same

module _ (m branches : ℕ) (basis : Polys) (raws : List (Terms Fraction))
    (steps : Vec (Vec Polys Global) Global) (raw_steps : List (List (List (Terms Fraction))))
    (elements : ArePolysOf m basis raws) (blocks : AreStepsOf m (vec_len basis) branches steps
    raw_steps) where
  list : IsListOf m (polys_in basis) raws
  list = polys_are m basis raws elements

  table : (b : ℕ) → IsTableOf m (get_or (blocks_in steps) b []) (get_or raw_steps b [])
  table = steps_are m (vec_len basis) steps raw_steps blocks.alike

  pub kept : IsWellSized m basis steps
  kept = record {
    arities = stands_over m basis.items raws elements;
    squares = all_from_left (IsBlockOf m (vec_len basis)) (IsSquare m (vec_len basis))
        (square m (vec_len basis)) steps.items raw_steps blocks.alike;
  }

  square_steps : AreSquare (length (polys_in basis)) (blocks_in steps)
  square_steps = subst (λ n. AreSquare n (blocks_in steps)) (sym (seen_length terms_in basis))
      (are_square m (vec_len basis) steps kept.squares)

  pub cert_is : IsCertOf m branches (record { arity = m; certificate = certificate_of basis steps })
      (record { basis = raws; steps = raw_steps })
  cert_is = record {
    arity = refl;
    same = record {
      basis = list.same;
      branches = length-map steps.items rows_in
          ∙ sym (AllZip-long (IsBlockOf m (vec_len basis)) steps.items raw_steps blocks.alike);
      elements = λ b. (table b).count;
      steps = λ b i. ((table b).at i).same;
    };
    over = kept_over m basis steps kept;
    complete = record {
      elements = list.polynomials;
      cofactors = λ b i. ((table b).at i).polynomials;
      count = seen_length rows_in steps ∙ blocks.count;
      heights = square_steps.heights;
      widths = square_steps.widths;
    };
  }

-- the raw list of polynomials has as many
pub raws_length : (m : ℕ) (basis : Polys) (raws : List (Terms Fraction)) → ArePolysOf m basis raws
    → length raws ≡ vec_len basis
raws_length m basis raws h = AllZip-long (StandsFor m) basis.items raws h ∙ sym basis.ok.0
