-- Lemmas on the table of two levels.
use Rattle.std.proofs.Common.{◌≡◌, inl, inr, ℕ, zero, suc, ◌+◌, ◌-◌, ◌*◌, ◌/◌, ◌%◌, ◌<◌, ◌≤◌, Bool, true, false, ◌&&◌, cond, leb, ltb, eqb, nat_eq, Option, Some, None, is_some, List, [], ◌∷◌, ◌++◌, length, get_or, replicate, set as put_at, count_by, refl, sym, ap, ◌∙◌, arith}
use Rattle.std.specs.Option.{option_and_then, option_map}
use Rattle.std.specs.List.{filter, filter_map, cons_option, range_with_len, list_any}
use Rattle.std.specs.Ordering.{nat_cmp}
use Rattle.std.specs.Cmp.{unsigned_tied, nat_cmp_total}
use Rattle.std.specs.FinMap as map
use Rattle.std.specs.FinSet as set
use Rattle.std.proofs.lemmas.Bool.{cases_eq, eq-eqb, ne_eqb}
use Rattle.std.proofs.lemmas.List.Sums.{sum_by-set, sum_by-append}
use Rattle.std.proofs.lemmas.List.Folds.{sum_by-replicate}
use Rattle.std.proofs.lemmas.Bool.Decides.{nat_tests}
use Rattle.std.proofs.lemmas.List.{length-append, length-replicate, get_or_past, get_or-set_other, get_or-set_same}
use Rattle.lane_scan.specs.Bits.{bits_of}
use Rattle.lane_scan.proofs.BitLemmas.{length-bits_of, get_or-bits_of}
use Rattle.page_map.specs.Pages.{Pages, put, with_leaf}
use Rattle.page_map.specs.Table.{leaf_of, number_at, number_of, numbers_in, chunks_with_leaf, pages_in, IsTable}

-- places in a row: a root, or a leaf
abbrev pub Places : Type 0
Places = List (Option ℕ)

-- what is found with one more entry, if it has a value
find_cons : (o : Option ℕ) (a q : ℕ) (es : List (ℕ × ℕ))
    → map.find nat_cmp q (cons_option (option_map (λ value. (a, value)) o) es) ≡ cond (eqb q a && is_some o) o (map.find nat_cmp q es)
find_cons None a q es = grind (arith, nat_tests)
find_cons (Some x) a q es = grind (arith, nat_tests, unsigned_tied q a)

-- what is found among the entries for each key of a range that has a value
find-range : (f : ℕ → Option ℕ) (a n q : ℕ)
    → map.find nat_cmp q (filter_map (λ key. option_map (λ value. (key, value)) (f key)) (range_with_len a n)) ≡ cond (leb a q && ltb q (a + n)) (f q) None
find-range f a zero q = grind (arith, nat_tests)
find-range f a (suc n) q = grind (arith, nat_tests, find_cons (f a) a q, find-range f (a + 1) n q)

-- the numbers of a range that pass
list_any-range : (p : ℕ → Bool) (a n q : ℕ) → list_any (λ y. nat_eq y q) (filter p (range_with_len a n)) ≡ (leb a q && ltb q (a + n) && p q)
list_any-range p a zero q = grind (arith, nat_tests)
list_any-range p a (suc n) q = grind (arith, nat_tests, list_any-range p (a + 1) n q)

-- the number at each page
get-numbers_in : (root : Places) (at : ℕ → Option ℕ) (page : ℕ) → map.get (numbers_in root at) page ≡ number_of root at page
unfolding numbers_in
get-numbers_in root at page =
    map.get-from_entries nat_cmp_total _ page ∙ find-range (number_of root at) 0 (512 * length root) page
    ∙ grind (arith, nat_tests, get_or_past root (page / 512) None)

-- which chunks have a leaf
contains-chunks_with_leaf : (root : Places) (chunk : ℕ) → set.contains (chunks_with_leaf root) chunk ≡ is_some (leaf_of root chunk)
unfolding chunks_with_leaf
contains-chunks_with_leaf root chunk =
    set.contains-from_list_nat _ chunk ∙ list_any-range (λ c. is_some (leaf_of root c)) 0 (length root) chunk
    ∙ grind (arith, nat_tests, get_or_past root chunk None)

-- what stands at each page after a put
get-put : (numbers : map.FinMap nat_cmp ℕ) (page : ℕ) (number : Option ℕ) (q : ℕ)
    → map.get (put numbers page number) q ≡ cond (eqb q page) number (map.get numbers q)
get-put numbers page None q = grind (arith, map.gets, unsigned_tied q page)
get-put numbers page (Some n) q = grind (arith, map.gets, unsigned_tied q page)

-- a list reads the same with more of what stands behind it
pub reads_more : {A : Type 0} (xs : List A) (n : ℕ) (x : A) (k : ℕ) → get_or (xs ++ replicate n x) k x ≡ get_or xs k x
reads_more [] zero x k = refl
reads_more [] (suc n) x zero = refl
reads_more [] (suc n) x (suc k) = reads_more [] n x k
reads_more (x ∷ xs) n y zero = refl
reads_more (x ∷ xs) n y (suc k) = reads_more xs n y k

-- no place behind the marks has anything in it
pub behind : (words numbers : List ℕ) (k : ℕ) → 64 * length words ≤ k → number_at (bits_of words) numbers k ≡ None
behind words numbers k ge = rw (get_or_past (bits_of words) k false (omega (arith, length-bits_of words))) refl

-- words that are 0 add no mark
more_words : (words : List ℕ) (n k : ℕ) → get_or (bits_of (words ++ replicate n 0)) k false ≡ get_or (bits_of words) k false
more_words words n k = get_or-bits_of (words ++ replicate n 0) k ∙ rw (reads_more words n 0 (k / 64)) (sym (get_or-bits_of words k))

-- what stands at each place, with more places that have no mark
pub marks_more : (words numbers : List ℕ) (n m k : ℕ) → number_at (bits_of (words ++ replicate n 0)) (numbers ++ replicate m 0) k ≡ number_at (bits_of words) numbers k
marks_more words numbers n m k = rw (more_words words n k, reads_more numbers m 0 k) refl

-- no place has anything in it where each word is 0
pub unmarked : (numbers : List ℕ) (n k : ℕ) → number_at (bits_of (replicate n 0)) numbers k ≡ None
unmarked numbers n k = rw (more_words [] n k) (behind [] numbers k (omega arith))

-- as many have a value in a list with more places that have nothing in them
count_more : (xs : Places) (n : ℕ) → count_by is_some (xs ++ replicate n None) ≡ count_by is_some xs
count_more xs n = omega (arith, sum_by-append (λ o. cond (is_some o) 1 0) xs (replicate n None), sum_by-replicate (λ (o : Option ℕ). cond (is_some o) 1 0) n None)

-- a table, and what it holds
pub record IsTableOf (root : Places) (places : ℕ) (at : ℕ → Option ℕ) (spare : ℕ) (pages : Pages) : Type 0 where
  pub table : IsTable root places
  pub numbers : (page : ℕ) → map.get pages.numbers page ≡ number_of root at page
  pub chunks : (chunk : ℕ) → set.contains pages.chunks chunk ≡ is_some (leaf_of root chunk)
  pub left : pages.spare ≡ spare

-- a table is one of what it shows
pub of_view : {root : Places} {places : ℕ} {spare : ℕ} {pages : Pages} (at : ℕ → Option ℕ) → IsTable root places → pages_in root at spare ≡ pages → IsTableOf root places at spare pages
of_view {root = root} at table is =
    rw (← is) (record { table = table; numbers = get-numbers_in root at; chunks = contains-chunks_with_leaf root; left = refl })

-- what a table holds, and what each change of it leaves
module _ {root : Places} {places : ℕ} {at : ℕ → Option ℕ} {spare : ℕ} {pages : Pages} (of : IsTableOf root places at spare pages) where
  -- what a table shows is what it holds
  pub view_of : pages_in root at spare ≡ pages
  view_of = λ i. record {
    numbers = map.same_map nat_cmp_total map.nat_cmp-IsAntisymmetric _ _ (λ q. get-numbers_in root at q ∙ sym (of.numbers q)) i;
    chunks = set.same_set nat_cmp_total set.nat_cmp-IsAntisymmetric _ _ (λ q. contains-chunks_with_leaf root q ∙ sym (of.chunks q)) i;
    spare = sym of.left i;
  }

  -- the chunks with one that has a leaf are the same
  pub kept : (chunk : ℕ) → is_some (leaf_of root chunk) ≡ true → pages.chunks ≡ set.insert pages.chunks chunk
  kept chunk there = set.same_set nat_cmp_total set.nat_cmp-IsAntisymmetric _ _ (λ q. grind (arith, set.members, nat_tests, unsigned_tied q chunk, of.chunks q, of.chunks chunk))

  -- a chunk without a leaf takes the next one
  pub given : (more chunk : ℕ) (wide : ℕ → Option ℕ) → set.contains pages.chunks chunk ≡ false → chunk < length root + more
      → ((k : ℕ) → wide k ≡ at k) → ((k : ℕ) → places ≤ k → at k ≡ None)
      → IsTableOf (put_at (root ++ replicate more None) chunk (Some (places / 512))) (places + 512) wide (spare - 1) (with_leaf pages chunk)
  given more chunk wide without within blank bare =
      let table = of.table in
      let free : leaf_of root chunk ≡ None = grind (arith, of.chunks chunk, without) in
      let leaf = places / 512 in
      let filled : leaf * 512 ≡ places = omega (arith, table.filled) in
      let long : Places = root ++ replicate more None in
      let same = reads_more root more None in
      let inside : chunk < length long = omega (arith, length-append root (replicate more None), length-replicate {A = Option ℕ} more None) in
      let now = put_at long chunk (Some leaf) in
      let here : leaf_of now chunk ≡ Some leaf = get_or-set_same long chunk (Some leaf) None inside in
      let other : (c : ℕ) → (c ≡ chunk → ⊥) → leaf_of now c ≡ leaf_of root c = λ c ne. get_or-set_other long chunk c (Some leaf) None ne ∙ same c in
      record {
        table = record {
          filled = grind (arith, sum_by-set (λ o. cond (is_some o) 1 0) long chunk (Some leaf) None, same chunk, table.filled, count_more root more);
          taken = λ c l has. grind (arith, cases_eq c chunk, here, other c, has, table.taken c l);
          apart = λ c o l has also. grind (arith, cases_eq c chunk, cases_eq o chunk, here, other c, other o, has, also, table.taken c l, table.taken o l, table.apart c o l);
        };
        numbers = λ q. of.numbers q ∙ elim (cases_eq (q / 512) chunk) [
          | inl e ↦
              let none : number_of root at q ≡ None = ap (option_and_then (λ l. at (l * 512 + q % 512))) (ap (leaf_of root) e ∙ free) in
              let some : number_of now wide q ≡ wide (leaf * 512 + q % 512) = ap (option_and_then (λ l. wide (l * 512 + q % 512))) (ap (leaf_of now) e ∙ here) in
              none ∙ sym (some ∙ blank (leaf * 512 + q % 512) ∙ bare (leaf * 512 + q % 512) (omega arith))
          | inr ne ↦ sym (ap (option_and_then (λ l. wide (l * 512 + q % 512))) (other (q / 512) ne) ∙ ap (λ f. number_of root f q) (λ i k. blank k i))
        ];
        chunks = λ q. grind (arith, cases_eq q chunk, here, other q, set.members, nat_tests, unsigned_tied q chunk, of.chunks q);
        left = ap (λ n. n - 1) of.left;
      }

  -- a page whose chunk has no leaf may be removed
  pub removed : (page : ℕ) → leaf_of root (page / 512) ≡ None → IsTableOf root places at spare (record pages { numbers = map.remove pages.numbers page })
  removed page free = record {
    table = of.table;
    numbers = λ q. grind (arith, map.gets, nat_tests, unsigned_tied q page, of.numbers q);
    chunks = of.chunks;
    left = of.left;
  }

  -- a table whose places have nothing in them has the leaves that it had
  pub emptied : (bare : ℕ → Option ℕ) → ((k : ℕ) → bare k ≡ None) → IsTableOf root places bare spare (record pages { numbers = map.empty })
  emptied bare blank = record {
    table = of.table;
    numbers = λ q. grind (arith, map.get-empty {X = ℕ} nat_cmp q, blank);
    chunks = of.chunks;
    left = of.left;
  }

  -- a page whose chunk has a leaf gets a number, or none
  pub written : (leaf page : ℕ) (number : Option ℕ) (now : ℕ → Option ℕ) → leaf_of root (page / 512) ≡ Some leaf
      → now (leaf * 512 + page % 512) ≡ number → ((k : ℕ) → (k ≡ leaf * 512 + page % 512 → ⊥) → now k ≡ at k)
      → IsTableOf root places now spare (record pages { numbers = put pages.numbers page number })
  written leaf page number now has here other = record {
    table = of.table;
    numbers = λ q. get-put pages.numbers page number q ∙ elim (cases_eq q page) [
      | inl e ↦ rw (e, eq-eqb page page refl, has) (sym here)
      | inr ne ↦ rw (ne_eqb q page ne) (of.numbers q ∙ sym (kept_at q ne (leaf_of root (q / 512)) refl))
    ];
    chunks = of.chunks;
    left = of.left;
  }
    where
      kept_at : (q : ℕ) → (q ≡ page → ⊥) → (o : Option ℕ) → leaf_of root (q / 512) ≡ o → option_and_then (λ l. now (l * 512 + q % 512)) o ≡ option_and_then (λ l. at (l * 512 + q % 512)) o
      kept_at q ne None e = refl
      kept_at q ne (Some l) e = other (l * 512 + q % 512) (λ same.
          let is : l ≡ leaf = omega arith in
          let chunk = of.table.apart (q / 512) (page / 512) l e (has ∙ ap (λ n. Some n) (sym is)) in
          ne (omega arith))
