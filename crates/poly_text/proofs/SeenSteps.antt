-- One item more: the set of exponents tells whether a term has them already.
--   stands-at          what the set answers says whether the exponents stand among those of the terms
--   read-more          a term more whose exponents are new;  pushed_terms: the terms with one more
use Rattle.std.proofs.Common.{◌≡◌, ◌≢◌, ℕ, ◌<◌, List, [], ◌∷◌, ◌++◌, ap, ap₂, sym, subst, ◌∙◌, length, get_or, true, false, arith, rules}
use Rattle.std.specs.Prelude.{Bool, ◌||◌, not, cond, AllPairs}
use Rattle.std.proofs.Math.Bool.{or-false, or-true, not-not}
use Rattle.std.specs.Global.{Vec}
use Rattle.std.specs.Str.{bytes_eq}
use Rattle.std.specs.BTreeSet.{BTreeSet, IsEmpty, contains, Updates}
use Rattle.std.proofs.lemmas.List.Folds.{list_any-append, list_any_at}
use Rattle.std.proofs.lemmas.List.Elements.{All-nil}
use Rattle.std.proofs.lemmas.List.Quantifiers.{all_pairs_push}
use Rattle.std.proofs.lemmas.Slice.Eq.{bytes_eq-Decides}
use Rattle.std.proofs.lemmas.Map.Text.{is_eq-slice_cmp}
use Rattle.std.proofs.lemmas.List.{map-append, length-map, get_or-map}
use Rattle.algebra.proofs.Basics.{not_both}
use Rattle.algebra.proofs.Lists.{have_more}
use Rattle.algebra.specs.Fraction.{Fraction}
use Rattle.frac128.specs.declared.fraction.Frac.{Frac}
use Rattle.polynomials.specs.Terms.{Terms}
use Rattle.poly.specs.declared.Term.{Term}
use Rattle.frac128.specs.FracMeaning.{fraction_of}
use Rattle.poly.specs.View.{term_of}
use Rattle.poly_text.specs.Flat.{stands}
use Rattle.poly_text.specs.Seen.{read_terms, exponents_cmp, HasSeen, HasRead}

has_seen-more : (seen news : BTreeSet (Vec ℕ)) (found : Terms Fraction) (key : Vec ℕ) (z : Fraction)
    → HasSeen seen found → Updates exponents_cmp seen news key true
    → HasSeen news (found ++ (key.items, z) ∷ [])
has_seen-more seen news found key z has updates = record {
  at = λ e. updates.0 e ∙ ap₂ (λ b s. cond b true s) (is_eq-slice_cmp key.items e.items) (has.at e)
      ∙ elim (bytes_eq key.items e.items) as (λ b. cond b true (stands found e.items)
      ≡ (stands found e.items || (b || false))) [
        | true ↦ sym (or-true _)
        | false
            ↦ sym (or-false _)
      ]
      ∙ sym (list_any-append (λ t. bytes_eq t.0 e.items) found ((key.items, z) ∷ []));
}

-- exponents that don't stand among those of terms differ from those of each
differs : (e : List ℕ) (ts : List (Term Frac)) → stands (read_terms ts) e ≡ false
    → (k : ℕ) (d : Term Frac) → k < length ts → (get_or ts k d).mono ≢ e
differs e ts none k d within = λ is.
    let same : bytes_eq (get_or (read_terms ts) k (term_of fraction_of d)).0 e ≡ true =
    ap (λ (t : List ℕ × Fraction). bytes_eq t.0 e) (get_or-map (term_of fraction_of) ts k d
    (term_of fraction_of d) within) ∙ (bytes_eq-Decides _ e).1 is in
    not_both (stands (read_terms ts) e) (list_any_at (λ t. bytes_eq t.0 e) (read_terms ts) k
    (term_of fraction_of d) (omega (arith, length-map ts (term_of fraction_of))) same) none

-- what the set answers says whether the exponents stand
pub stands-at : (seen : BTreeSet (Vec ℕ)) (found : Terms Fraction) (key : Vec ℕ)
    → HasSeen seen found → (added : Bool) → added ≡ not (contains exponents_cmp seen key)
    → stands found key.items ≡ not added
stands-at seen found key has added is = sym (has.at key)
    ∙ sym (not-not (contains exponents_cmp seen key)) ∙ ap not (sym is)

pub pushed_terms : (ts news : List (Term Frac)) (t : Term Frac) → news ≡ ts ++ t ∷ []
    → read_terms news ≡ read_terms ts ++ (t.mono, fraction_of t.coef) ∷ []
pushed_terms ts news t are = ap read_terms are ∙ map-append (term_of fraction_of) ts (t ∷ [])

pub nothing_read : (m : ℕ) (ts : List (Term Frac)) (seen : BTreeSet (Vec ℕ)) → ts ≡ []
    → IsEmpty seen → HasRead m ts seen
nothing_read m [] seen none empty = record {
  arities = All-nil _;
  distinct = search rules;
  seen = record { at = λ e. search rules };
}
nothing_read m (t ∷ ts) seen none empty = absurd (cc)

pub read-more : (m : ℕ) (ts pushed : List (Term Frac)) (seen news : BTreeSet (Vec ℕ)) (key : Vec ℕ)
    (t : Term Frac) → t.mono ≡ key.items → length key.items ≡ m
    → HasRead m ts seen → (added : Bool) → added ≡ not (contains exponents_cmp seen key)
    → added ≡ true → Updates exponents_cmp seen news key true → pushed ≡ ts ++ t ∷ []
    → HasRead m pushed news
read-more m ts pushed seen news key t is len has added says new updates are = record {
  arities = have_more (λ (t : Term Frac). length t.mono ≡ m) ts pushed t are has.arities
      (ap length is ∙ len);
  distinct = subst (λ us. AllPairs (λ (s : Term Frac) (t : Term Frac). s.mono ≢ t.mono) us)
      (sym are)
      (all_pairs_push (λ (s : Term Frac) (t : Term Frac). s.mono ≢ t.mono) ts t has.distinct
      (differs t.mono ts (ap (stands (read_terms ts)) is
      ∙ stands-at seen (read_terms ts) key has.seen added says ∙ ap not new)));
  seen = subst (HasSeen news) (sym (pushed_terms ts pushed t are
      ∙ ap (λ (e : List ℕ). read_terms ts ++ (e, fraction_of t.coef) ∷ []) is))
      (has_seen-more seen news (read_terms ts) key (fraction_of t.coef) has.seen updates);
}
