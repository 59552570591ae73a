-- Texts that are made part by part.
--   pushed, pushed_at     the parts of some items, with that of one more
--   all_pushed        those of all items
--   basis_pushed      of the elements of a basis
--   EquationsGoOn     the lines of the first elements, each of which is read back
--   no_equations, equations_more, equations_read_back, empty_read_back     of none, of one more, and of all
use Rattle.std.proofs.Common.{◌≡◌, ℕ, ◌+◌, ◌<◌, ◌≤◌, List, [], ◌∷◌, ◌++◌, length, take, get_or, sym, ap, subst, ◌∙◌, arith, Result, Ok, Err, All}
use Rattle.std.specs.List.{flat_map}
use Rattle.std.specs.Result.{IfOk}
use Rattle.std.proofs.lemmas.List.{take_more, take_all, flat_map_more}
use Rattle.std.proofs.lemmas.List.Elements.{All-nil, All-cons, All-head, All-tail, All-push}
use Rattle.std.proofs.lemmas.List.Folds.{flat_map-map}
use Rattle.loop_model.specs.FracPoly.{FracPoly as Polynomial}
use Rattle.poly.specs.Seen.{terms_in, terms_each}
use Rattle.loop_model.specs.Names.{AreNames}
use Rattle.command_parts.specs.ReadBack.{ReadsBack, IsReadBack}
use Rattle.command_parts.specs.BasisTexts.{equation_line, basis_text}

module _ {X : Type 0} (f : X → List ℕ) (xs : List X) (i : ℕ) where
  pub pushed_at : (d : X) (start text more : List ℕ) → i < length xs
      → text ≡ start ++ flat_map f (take i xs) → more ≡ text ++ f (get_or xs i d)
      → more ≡ start ++ flat_map f (take (i + 1) xs)
  pushed_at d start text more within before is =
      is ∙ (ap (λ t. t ++ f (get_or xs i d)) before
      ∙ (flat_map_more f start (take i xs) (get_or xs i d)
      ∙ ap (λ ys. start ++ flat_map f ys) (sym (take_more xs i d within))))

  pub pushed : (x : X) (start text more : List ℕ) → i < length xs → x ≡ get_or xs i x
      → text ≡ start ++ flat_map f (take i xs) → more ≡ text ++ f x
      → more ≡ start ++ flat_map f (take (i + 1) xs)
  pushed x start text more within at before is = pushed_at x start text more within before (is
      ∙ ap (λ y. text ++ f y) at)

  pub all_pushed : (start text : List ℕ) → length xs ≤ i → text ≡ start ++ flat_map f (take i xs)
      → text ≡ start ++ flat_map f xs
  all_pushed start text all before = before ∙ ap (λ ys. start ++ flat_map f ys) (take_all i xs all)

module _ (names : List (List ℕ)) where
  abbrev pub equation_of : Polynomial → List ℕ
  equation_of p = equation_line names (terms_in p)

  pub basis_pushed : (ps : List Polynomial) (text : List ℕ) → 0 < length ps
      → text ≡ flat_map equation_of ps → text ≡ basis_text names (terms_each ps)
  basis_pushed [] text some is = absurd (omega (arith, some))
  basis_pushed (p ∷ ps) text some is = is
      ∙ sym (flat_map-map (equation_line names) terms_in (p ∷ ps))

  -- ---- elements that are read back
  abbrev pub ReadsBackIn : Polynomial → Type 0
  ReadsBackIn p = ReadsBack names (terms_in p)

  pub record EquationsGoOn (ps : List Polynomial) (i : ℕ) (text : List ℕ) : Type 0 where
    pub so_far : text ≡ flat_map equation_of (take i ps)
    pub each : All ReadsBackIn (take i ps)

  pub no_equations : (ps : List Polynomial) (text : List ℕ) → text ≡ [] → EquationsGoOn ps 0 text
  no_equations ps text none = record { so_far = none; each = All-nil ReadsBackIn }

  pub equations_more : (ps : List Polynomial) (i : ℕ) (text more : List ℕ) → EquationsGoOn ps i text
      → (p : Polynomial) → i < length ps → p ≡ get_or ps i p → more ≡ text ++ equation_of p
      → ReadsBackIn p
      → EquationsGoOn ps (i + 1) more
  equations_more ps i text more before p within at is reads = record {
    so_far = pushed equation_of ps i p [] text more within at before.so_far is;
    each = subst (All ReadsBackIn) (sym (take_more ps i p within)) (All-push ReadsBackIn (take i ps)
        (get_or ps i p) before.each (subst ReadsBackIn at reads));
  }

  each_seen : (ps : List Polynomial) → All ReadsBackIn ps → All (ReadsBack names) (terms_each ps)
  each_seen [] h = All-nil (ReadsBack names)
  each_seen (p ∷ ps) h = All-cons (ReadsBack names) (terms_in p) (terms_each ps)
      (All-head ReadsBackIn p ps h) (each_seen ps (All-tail ReadsBackIn p ps h))

  pub equations_read_back : (ps : List Polynomial) (i : ℕ) (text : List ℕ) → EquationsGoOn ps i text
      → length ps ≤ i → AreNames names → IsReadBack names (terms_each ps)
  equations_read_back ps i text done all are = record {
    are_names = are;
    each = each_seen ps (subst (All ReadsBackIn) (take_all i ps all) done.each);
  }

  pub empty_read_back : {X E : Type 0} (r : Result X E) (ps : List Polynomial) → length ps ≡ 0
      → AreNames names → IfOk r (λ _. IsReadBack names (terms_each ps))
  empty_read_back (Ok x) [] none are = record { are_names = are; each = All-nil (ReadsBack names) }
  empty_read_back (Ok x) (p ∷ ps) none are = absurd (omega (arith, none))
  empty_read_back (Err e) ps none are = tt
