-- Shelves whose accounts are read off a list of boxes.
use Rattle.hook_api.proofs.Words.{◌≡◌, ◌≢◌, ℕ, ◌<◌, List, length, map, get_or, ap, refl, subst, sym, ◌∙◌, arith, set, length-set, get_or-map, get_or_read_under, get_or-set_other, get_or-set_same, map-set, Book, AskFacts, Account, AskStep, BoxStep, box_at, new_book, no_account}

-- what is read off a list of boxes is read off the box
pub read_at : {X Y : Type 0} (f : X → Y) (xs : List X) (i : ℕ) (x : X) (d : Y) → i < length xs → x ≡ get_or xs i x → get_or (map f xs) i d ≡ f x
read_at f xs i x d inside is = get_or-map f xs i x d inside ∙ sym (ap f is)

-- a box number reads as its account and its book
pub box_at_mapped : {X : Type 0} (f : X → Account) (xs : List X) (books : List Book) (i : ℕ) (x : X) (book : Book)
    → i < length xs → i < length books → x ≡ get_or xs i x → book ≡ get_or books i book
    → box_at (record { accounts = map f xs; books = books }) i ≡ record { account = f x; book = book }
box_at_mapped f xs books i x book inside booked is was =
    let a = read_at f xs i x no_account inside is in
    let b = sym (get_or_read_under books i (length books) book new_book was booked refl) in
    cc

-- a step of the box i is a step of the shelf
pub ask_step_at : {X : Type 0} (f : X → Account) (xs : List X) (books : List Book) (i : ℕ) (x y : X) (book kept : Book) (asked : AskFacts)
    → asked.box_no ≡ i → i < length xs → i < length books → x ≡ get_or xs i x → book ≡ get_or books i book
    → BoxStep (record { account = f x; book = book }) asked (record { account = f y; book = kept })
    → AskStep (record { accounts = map f xs; books = books }) asked (record { accounts = map f (set xs i y); books = set books i kept })
ask_step_at {X = X} f xs books i x y book kept asked at inside booked is was step =
    let old_account : get_or (map f xs) i no_account ≡ f x = read_at f xs i x no_account inside is in
    let old_book : get_or books i new_book ≡ book = sym (get_or_read_under books i (length books) book new_book was booked refl) in
    let new_account : get_or (map f (set xs i y)) i no_account ≡ f y =
    read_at f (set xs i y) i y no_account (omega (arith, length-set {A = X})) (sym (get_or-set_same xs i y y inside)) in
    let kept_book : get_or (set books i kept) i new_book ≡ kept = get_or-set_same books i kept new_book booked in
    record {
      box =
          let P : ℕ → Type 0 = λ n. BoxStep (box_at (record { accounts = map f xs; books = books }) n) asked
          (box_at (record { accounts = map f (set xs i y); books = set books i kept }) n) in
          subst P (sym at) (rw (old_account, old_book, new_account, kept_book) step);
      others = λ n ne.
          let other : n ≢ i = λ e. ne (e ∙ sym at) in
          let account : get_or (map f (set xs i y)) n no_account ≡ get_or (map f xs) n no_account =
          rw (map-set f xs i y) (get_or-set_other (map f xs) i n (f y) no_account other) in
          let book_there : get_or (set books i kept) n new_book ≡ get_or books n new_book = get_or-set_other books i n kept new_book other in
          cc;
    }
