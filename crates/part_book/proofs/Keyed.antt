-- Sets of the keys of extents that get an extent, lose one, or have one exchanged.
use Rattle.part_book.proofs.Words.{◌≡◌, ◌≢◌, ◌^◌, ◌<◌, not, eqb, List, [], ◌∷◌, ◌++◌, Option, Some, None, inl, inr, refl, sym, ap, ◌∙◌, arith, Contains, IfSome, cases_Bool, eqb-true, false_from_ne_true, not_from_false, Contains-append_left, Contains-push, Contains-push_cases, Key, filter_has, with_from, with_keeps, with_self, without_from, without_keeps, IsKeyed, Row, first_key, keys_with, keys_without, size_key, mapped_some, nat_tests}
use Rattle.part_book.proofs.Rowed.{other_row, others}

module _ (key_of : Row → Option Key) (rows : List Row) (row : Row) (keys : List Key) (i : IsKeyed key_of rows keys) where
  -- the set gets the key of a new extent
  pub keyed_more : IsKeyed key_of (rows ++ row ∷ []) (keys_with keys (key_of row))
  keyed_more = by (key_of row) refl
    where
      by : (o : Option Key) → key_of row ≡ o → IsKeyed key_of (rows ++ row ∷ []) (keys_with keys o)
      by None e = record {
        has = λ r k m is. grind (arith, Contains-push_cases rows row r m, i.has r k, e, is);
        from = λ k m. let p = i.from k m in (p.0, Contains-append_left rows (row ∷ []) p.0 p.1, p.2);
      }
      by (Some key) e = record {
        has = λ r k m is. grind (arith, Contains-push_cases rows row r m, with_keeps keys key k, i.has r k, with_self keys key, e, is);
        from = λ k m. elim (with_from keys key k m) [
          | inl new ↦ (row, Contains-push rows row, e ∙ ap (λ x. Some x) (sym new))
          | inr old ↦ let p = i.from k old in (p.0, Contains-append_left rows (row ∷ []) p.0 p.1, p.2)
        ];
      }

  -- no other extent has its key
  abbrev pub Owned : Type 0
  Owned = (r : Row) (k : Key) → Contains rows r → key_of r ≡ Some k → key_of row ≡ Some k → r.number ≡ row.number

  -- a key that is new is not in the set
  pub key_absent : Owned → ((r : Row) → Contains rows r → r.number ≢ row.number) → IfSome (key_of row) (λ k. Contains keys k → ⊥)
  key_absent own new = by (key_of row) refl
    where
      by : (o : Option Key) → key_of row ≡ o → IfSome o (λ k. Contains keys k → ⊥)
      by None e = tt
      by (Some key) e = λ m. let p = i.from key m in new p.0 p.1 (own p.0 key p.1 p.2 e)

  module _ (m : Contains rows row) where
    module _ (one : (r : Row) → Contains rows r → r.number ≡ row.number → r ≡ row) where
      -- the set loses the key of an extent that goes
      pub keyed_less : Owned → IsKeyed key_of (others row.number rows) (keys_without keys (key_of row))
      keyed_less own = by (key_of row) refl
        where
          is_other : (r : Row) → Contains rows r → (r ≡ row → ⊥) → Contains (others row.number rows) r
          is_other r n ne = filter_has (λ x. not (eqb x.number row.number)) rows r n (not_from_false (eqb r.number row.number) (false_from_ne_true (eqb r.number row.number) (λ t. ne (one r n (eqb-true r.number row.number t)))))

          by : (o : Option Key) → key_of row ≡ o → IsKeyed key_of (others row.number rows) (keys_without keys o)
          by None e = record {
            has = λ r k n is. i.has r k (other_row row.number rows r n).0 is;
            from = λ k n. let p = i.from k n in (p.0, is_other p.0 p.1 (λ s. let no : None ≡ Some k = sym e ∙ ap key_of (sym s) ∙ p.2 in cc), p.2);
          }
          by (Some key) e = record {
            has = λ r k n is. (
                let o = other_row row.number rows r n in
                without_keeps keys key k (i.has r k o.0 is) (λ s. o.1 (own r key o.0 (is ∙ ap (λ x. Some x) s) e)));
            from = λ k n. (
                let o = without_from keys key k n in
                let p = i.from k o.0 in
                (p.0, is_other p.0 p.1 (λ s. let both : Some k ≡ Some key = sym p.2 ∙ ap key_of s ∙ e in o.1 (cc)), p.2));
          }

      -- the set stays for another extent with the same key
      pub keyed_same : (other : Row) → key_of row ≡ key_of other → IsKeyed key_of (others row.number rows ++ other ∷ []) keys
      keyed_same other e = record {
        has = λ r k n is. grind (arith, Contains-push_cases (others row.number rows) other r n, other_row row.number rows r, i.has r k, i.has row k m, e, is);
        from = λ k n. (
            let p = i.from k n in
            elim (cases_Bool (eqb p.0.number row.number)) [
              | inl t ↦ (other, Contains-push (others row.number rows) other, sym e ∙ ap key_of (sym (one p.0 p.1 (eqb-true p.0.number row.number t))) ∙ p.2)
              | inr f ↦ (p.0, Contains-append_left (others row.number rows) (other ∷ []) p.0 (filter_has (λ x. not (eqb x.number row.number)) rows p.0 p.1 (not_from_false (eqb p.0.number row.number) f)), p.2)
            ]);
      }

-- extents with one key among the first pages have one number
pub first_own : (r row : Row) (k : Key) → first_key r ≡ Some k → first_key row ≡ Some k → r.number ≡ row.number
first_own r row k a b = grind (arith, a, b)

-- extents with one key among the unused ones have one number
pub size_own : (r row : Row) (k : Key) → r.number < 2 ^ 32 → row.number < 2 ^ 32 → size_key r ≡ Some k → size_key row ≡ Some k → r.number ≡ row.number
size_own r row k small too a b = grind (arith, nat_tests, mapped_some)
