-- The words of the most usual lines, all of which have names' bytes alone.
use Rattle.trace_text.proofs.Words.{◌≡◌, ℕ, ◌+◌, ◌<◌, Bool, true, false, eqb, ltb, leb, cond, List, [], ◌∷◌, ◌++◌, length, get_or, take, drop, Result, Ok, Err, refl, sym, ap, ◌∙◌, arith, codes, list_all, and_parts, bytes_eq, nat_tests, drop_more, NumberFault, NotDigits, caused, decimal_of, LineFault, Words, ◌>>=◌, both, name_of, client_of, pointer_of, named_size_of, verb_of, client_line_of, said_of, begins_client, is_printable, words_of, ◌&&◌, slice_index, take-append-drop, list_all-append, decimal_in_word, is_name, is_name_byte, line_of, is_blank, Malloc, Free}
use Rattle.std.specs.Char.{is_ascii_digit, is_ascii_lowercase}
use Rattle.std.proofs.lemmas.Slice.Eq.{bytes_eq-Decides}
use Rattle.text_words.proofs.Cuts.{word_in_front, word_alone}
use Rattle.text_words.specs.Words.{is_in_word}
use Rattle.trace_text.specs.declared.lines.Line.TheVariants.{Call}
use Rattle.trace_text.specs.declared.lines.Ptr.TheVariants.{Name}

-- what stands before and behind a space
pub cut_here : (bytes : List ℕ) (at : ℕ) → at < length bytes → get_or bytes at 0 ≡ 32 → bytes ≡ take at bytes ++ 32 ∷ drop (at + 1) bytes
cut_here bytes at lt space =
    sym (take-append-drop at bytes) ∙ ap (λ (xs : List ℕ). take at bytes ++ xs) (drop_more bytes at 0 lt ∙ ap (λ (b : ℕ). b ∷ drop (at + 1) bytes) space)

both_true : {a b : Bool} → a ≡ true → b ≡ true → (a && b) ≡ true
both_true h k = rw (h, k) refl

also : (p q : ℕ → Bool) → ((b : ℕ) → p b ≡ true → q b ≡ true) → (bytes : List ℕ) → list_all p bytes ≡ true → list_all q bytes ≡ true
also p q h [] all = refl
also p q h (b ∷ bytes) all = let parts = and_parts (p b) (list_all p bytes) all in both_true (h b parts.0) (also p q h bytes parts.1)

-- a name's bytes are printable, and no spaces
plain : (word : List ℕ) → list_all is_name_byte word ≡ true → (list_all is_printable word ≡ true) × (list_all (is_in_word 32) word ≡ true)
plain word h = (also is_name_byte is_printable (λ b e. grind (arith, nat_tests)) word h, also is_name_byte (is_in_word 32) (λ b e. grind (arith, nat_tests)) word h)

-- a word and a space in front of other words
before_words : (word rest : List ℕ) → list_all is_name_byte word ≡ true → list_all is_printable rest ≡ true → (list_all is_printable (word ++ 32 ∷ rest) ≡ true) × (words_of (word ++ 32 ∷ rest) ≡ word ∷ words_of rest)
before_words word rest named h =
    (list_all-append is_printable word (32 ∷ rest) ∙ both_true (plain word named).0 h, word_in_front 32 word rest (plain word named).1)

-- what writes a number is digits
digits_if : (t : Bool) (r : Result ℕ NumberFault) (n : ℕ) → caused (cond t r (Err NotDigits)) ≡ Ok n → t ≡ true
digits_if true r n h = refl
digits_if false r n h = absurd cc

decimal_named : (word : List ℕ) (n : ℕ) → decimal_of word ≡ Ok n → list_all is_name_byte word ≡ true
unfolding decimal_of decimal_in_word
decimal_named word n h =
    also is_ascii_digit is_name_byte (λ b e. grind (arith, nat_tests)) word (and_parts (ltb 0 (length word)) (list_all is_ascii_digit word) (digits_if _ _ n h)).1

-- what names a client begins with `t`, and has digits behind it
client_if : (t : Bool) (r : Result ℕ LineFault) (f : ℕ → Result ℕ LineFault) (c : ℕ) → cond t (r >>= f) (Err Words) ≡ Ok c → (t ≡ true) × ((n : ℕ) × (r ≡ Ok n))
client_if true (Ok n) f c h = (refl, (n, refl))
client_if true (Err e) f c h = absurd cc
client_if false r f c h = absurd cc

client_named : (word : List ℕ) (client : ℕ) → client_of word ≡ Ok client → (begins_client word ≡ true) × (list_all is_name_byte word ≡ true)
unfolding client_of
client_named [] client h = absurd cc
client_named (b ∷ digits) client h =
    let parts = client_if (eqb b 116) (decimal_of digits) _ client h in
    (parts.0, both_true (grind (arith, nat_tests, parts.0)) (decimal_named digits parts.1.0 parts.1.1))

not_blank : (word rest : List ℕ) → begins_client word ≡ true → is_blank (word ++ rest) ≡ false
not_blank [] rest h = absurd cc
not_blank (b ∷ bytes) rest h = grind (arith, nat_tests, h)

-- a client's line
client_line : (line word verb rest : List ℕ) (client : ℕ) → line ≡ word ++ 32 ∷ (verb ++ 32 ∷ rest) → client_of word ≡ Ok client → list_all is_name_byte verb ≡ true → list_all is_printable rest ≡ true →
    line_of line ≡ client_line_of word (verb ∷ words_of rest)
unfolding line_of said_of
client_line line word verb rest client cut is named h =
    let begins = client_named word client is in
    let call = before_words verb rest named h in
    let here = before_words word (verb ++ 32 ∷ rest) begins.1 call.0 in
    rw (cut, here.0, not_blank word (32 ∷ (verb ++ 32 ∷ rest)) begins.0, here.1, begins.0) (ap (client_line_of word) call.1)

-- a malloc
pub malloc_said : (line word call verb arguments name digits : List ℕ) (client size end : ℕ) → line ≡ word ++ 32 ∷ call → client_of word ≡ Ok client → call ≡ verb ++ 32 ∷ arguments → verb ≡ codes "malloc" →
    arguments ≡ name ++ 32 ∷ digits → name ≡ take end arguments → list_all is_name_byte (take end arguments) ≡ true → (is_ascii_lowercase (slice_index name 0) && leb (length name) 32) ≡ true → decimal_of digits ≡ Ok size →
    line_of line ≡ Ok (Call client (Malloc name size))
unfolding client_line_of verb_of named_size_of name_of both
malloc_said line word call verb arguments name digits client size end cut is behind verb_is two front bytes begins number =
    let all : list_all is_name_byte name ≡ true = rw front bytes in
    let named : is_name name ≡ true = both_true begins all in
    let last = decimal_named digits size number in
    let here = before_words name digits all (plain digits last).0 in
    client_line line word (codes "malloc") arguments client (rw (behind, verb_is) at cut) is refl (rw two here.0)
    ∙ ap (λ (ws : List (List ℕ)). client_line_of word (codes "malloc" ∷ ws)) (ap words_of two ∙ here.1 ∙ ap (λ (ws : List (List ℕ)). name ∷ ws) (word_alone 32 digits (plain digits last).1)) ∙ rw (is, named, number) refl

name_pointer : (word : List ℕ) → is_name word ≡ true → pointer_of word ≡ Ok (Name word)
unfolding pointer_of name_of
name_pointer [] h = absurd cc
name_pointer (b ∷ word) h =
    let other : eqb b 64 ≡ false = grind (arith, nat_tests, (and_parts (is_ascii_lowercase b && leb (length (b ∷ word)) 32) (list_all is_name_byte (b ∷ word)) h).0) in
    rw (other, h) refl

-- a free by a name
pub free_said : (line word call verb name : List ℕ) (client : ℕ) → line ≡ word ++ 32 ∷ call → client_of word ≡ Ok client → call ≡ verb ++ 32 ∷ name → bytes_eq verb (codes "free") ≡ true → is_name name ≡ true →
    line_of line ≡ Ok (Call client (Free (Name name)))
unfolding client_line_of verb_of both
free_said line word call verb name client cut is behind verb_is named =
    let last = (and_parts (is_ascii_lowercase (slice_index name 0) && leb (length name) 32) (list_all is_name_byte name) named).1 in
    client_line line word (codes "free") name client (rw (behind, (bytes_eq-Decides verb (codes "free")).0 verb_is) at cut) is refl (plain name last).0
    ∙ ap (λ (ws : List (List ℕ)). client_line_of word (codes "free" ∷ ws)) (word_alone 32 name (plain name last).1) ∙ rw (is, name_pointer name named) refl
