-- The monomials up to a degree, as they are listed.
--   listed_more, listed_same, listed_all     one monomial after another times the power that gives it the degree
--   no_degrees, next_degree, all_degrees     one degree after another
--   too_many                                 of which there may be too many
--   arities_below                            each has its number of exponents, which may be below a bound
--   first_monomials                          those in no variables
use Rattle.std.proofs.Common.{◌≡◌, ℕ, suc, ◌+◌, ◌-◌, ◌<◌, ◌≤◌, Bool, true, false, cond, nat_le, le-leb, List, [], ◌∷◌, ◌++◌, take, get_or, length, sum, sym, ap, subst, ◌∙◌, arith, All}
use Rattle.std.proofs.lemmas.Bool.{lt-leb}
use Rattle.std.proofs.lemmas.List.{append-nil, append_assoc, map_push, take_all}
use Rattle.std.proofs.lemmas.List.Elements.{filter_more, All-weaker}
use Rattle.std.specs.List.{filter}
use Rattle.exponentials.proofs.Orders.{each-all}
use Rattle.closures.specs.Monomials.{join_below, of_degree, monomials_up_to}
use Rattle.closures.proofs.Monomials.{lower_monomials, longer_below, are_monomials_up_to}

abbrev lower : ℕ → List (List ℕ) → List (List ℕ)
lower t es = filter (λ e. nat_le (sum e) t) es

module _ (t : ℕ) (start list : List (List ℕ)) where
  lower_more : (i : ℕ) (e : List ℕ) (b : Bool) → i < length list → e ≡ get_or list i e
      → nat_le (sum e) t ≡ b
      → lower t (take (i + 1) list) ≡ lower t (take i list) ++ cond b (e ∷ []) []
  lower_more i e b l is test =
      filter_more (λ e. nat_le (sum e) t) list i e l
      ∙ ap (λ x. lower t (take i list) ++ cond (nat_le (sum x) t) (x ∷ []) []) (sym is)
      ∙ ap (λ c. lower t (take i list) ++ cond c (e ∷ []) []) test

  pub listed_more : (items more : List (List ℕ)) (i : ℕ) (e longer : List ℕ) → i < length list
      → e ≡ get_or list i e → sum e ≤ t
      → items ≡ start ++ of_degree t (filter (λ e. nat_le (sum e) t) (take i list))
      → longer ≡ e ++ (t - sum e) ∷ [] → more ≡ items ++ longer ∷ []
      → more ≡ start ++ of_degree t (filter (λ e. nat_le (sum e) t) (take (i + 1) list))
  listed_more items more i e longer l is k before made h =
      h ∙ ap (λ x. items ++ x ∷ []) made
      ∙ ap (λ xs. xs ++ (e ++ (t - sum e) ∷ []) ∷ []) before
      ∙ append_assoc start (of_degree t (lower t (take i list))) ((e ++ (t - sum e) ∷ []) ∷ [])
      ∙ ap (λ xs. start ++ xs)
      (sym (map_push (λ e. e ++ (t - sum e) ∷ []) (lower t (take i list)) e))
      ∙ ap (λ xs. start ++ of_degree t xs) (sym (lower_more i e true l is (le-leb (sum e) t k)))

  pub listed_same : (items : List (List ℕ)) (i : ℕ) (e : List ℕ) → i < length list
      → e ≡ get_or list i e → t < sum e
      → items ≡ start ++ of_degree t (filter (λ e. nat_le (sum e) t) (take i list))
      → items ≡ start ++ of_degree t (filter (λ e. nat_le (sum e) t) (take (i + 1) list))
  listed_same items i e l is k before =
      before
      ∙ ap (λ xs. start ++ of_degree t xs)
      (sym (lower_more i e false l is (lt-leb (sum e) t k)
      ∙ append-nil (lower t (take i list))))

  pub listed_none : (items : List (List ℕ)) → items ≡ start
      → items ≡ start ++ of_degree t (filter (λ e. nat_le (sum e) t) (take 0 list))
  listed_none items h = h ∙ sym (append-nil start)

  pub listed_all : (items : List (List ℕ)) (i : ℕ) → length list ≤ i
      → items ≡ start ++ of_degree t (filter (λ e. nat_le (sum e) t) (take i list))
      → items ≡ start ++ of_degree t (filter (λ e. nat_le (sum e) t) list)
  listed_all items i l h = h ∙ ap (λ xs. start ++ of_degree t (lower t xs)) (take_all i list l)

arities : (list : List (List ℕ)) (m d : ℕ) → list ≡ monomials_up_to m d
    → All (λ e. length e ≡ m) list
arities list m d is =
    subst (All (λ e. length e ≡ m)) (sym is)
    (each-all (λ e. length e ≡ m) (monomials_up_to m d)
    (let all = are_monomials_up_to m d in all.arities))

pub arities_below : (list : List (List ℕ)) (m d : ℕ) → list ≡ monomials_up_to m d → (most : ℕ)
    → m < most → All (λ e. length e < most) list
arities_below list m d is most few =
    All-weaker (λ e. length e ≡ m) (λ e. length e < most) (λ e same. omega (arith, same, few)) list
    (arities list m d is)

pub first_monomials : (d : ℕ) (items : List (List ℕ)) (one : List ℕ) → items ≡ [] ++ one ∷ []
    → one ≡ [] → items ≡ monomials_up_to 0 d
unfolding monomials_up_to
first_monomials d items one h e = h ∙ ap (λ x. x ∷ []) e

module _ (m d : ℕ) where
  abbrev pub degrees_below : ℕ → List (List ℕ)
  degrees_below n = join_below (λ t. of_degree t (monomials_up_to m t)) n

  pub no_degrees : (items : List (List ℕ)) → items ≡ [] → items ≡ degrees_below 0
  unfolding join_below
  no_degrees items h = h

  pub next_degree : {list items more : List (List ℕ)} (t : ℕ) → list ≡ monomials_up_to m d → t ≤ d
      → items ≡ degrees_below t → more ≡ items ++ of_degree t (filter (λ e. nat_le (sum e) t) list)
      → more ≡ degrees_below (t + 1)
  unfolding join_below
  next_degree {list = list} t is l before h =
      h ∙ ap (λ xs. xs ++ of_degree t (lower t list)) before
      ∙ ap (λ xs. degrees_below t ++ of_degree t (lower t xs)) is
      ∙ ap (λ xs. degrees_below t ++ of_degree t xs) (lower_monomials m t d l)
      ∙ ap degrees_below (let one_more : suc t ≡ t + 1 = omega arith in one_more)

  pub too_many : (n most : ℕ) {items : List (List ℕ)} → n ≤ suc d → items ≡ degrees_below n
      → most < length items → most < length (monomials_up_to (suc m) d)
  unfolding monomials_up_to
  too_many n most l is k =
      omega (
        arith,
        ap length is,
        longer_below (λ t. of_degree t (monomials_up_to m t)) n (suc d) l,
        k,
      )

  pub all_degrees : (n : ℕ) {items : List (List ℕ)} → n ≤ suc d → suc d ≤ n
      → items ≡ degrees_below n → items ≡ monomials_up_to (suc m) d
  unfolding monomials_up_to
  all_degrees n l k is = is ∙ ap degrees_below (omega arith)
