-- Entries are read as they were written.
use Rattle.std.proofs.Common.{◌≡◌, ℕ, true, false, eqb, List, [], ◌∷◌, ◌++◌, Option, None, Some, Result, Ok, Err, refl, sym, ap, subst, ◌∙◌, append-nil}
use Rattle.std.specs.Prelude.{IfOk}
use Rattle.journal.specs.declared.faults.ReadFault.{ReadFault}
use Rattle.std.specs.Fmt.{decimal}
use Rattle.std.specs.List.{All, AllByRecursion, join_with_byte, list_all}
use Rattle.std.proofs.lemmas.Bool.{and_parts}
use Rattle.std.proofs.lemmas.List.Elements.{All-append, All-cons, All-nil}
use Rattle.std.proofs.lemmas.List.Splits.{join_with_byte-slice_split}
use Rattle.text_words.specs.Words.{is_in_word, words_of}
use Rattle.text_words.proofs.Cuts.{word_alone, word_in_front}
use Rattle.space_model.specs.declared.Entry.{Entry}
use Rattle.journal.specs.Codec.{Codec, Says, Words, ◌⊗◌, if_last, via, whole}
use Rattle.journal.specs.Fields.{int}
unfoldable use Rattle.journal.specs.Ops.{op, op_words}
unfoldable use Rattle.journal.specs.Entries.{FitsEntry, IsOneLine, entry_at, entry_of, entry_text, spaced}
use Rattle.journal.proofs.Exact.{Exact, IsPlain, exact_both, exact_via, same_some}
use Rattle.journal.proofs.FieldLaws.{exact_int, not_equal}
use Rattle.journal.proofs.OpLaws.{exact_op}

-- ---- words and spaces

-- plain words that are parted by one space each are the words of the line
pub split_spaced : (word : List ℕ) (words : Words) → IsPlain word → AllByRecursion IsPlain words → words_of 32 (word ++ spaced words) ≡ word ∷ words
split_spaced word [] p q = ap (words_of 32) (append-nil word) ∙ word_alone 32 word p.0
split_spaced word (w ∷ words) p q =
    word_in_front 32 word (w ++ spaced words) p.0 ∙ ap (λ (ws : Words). word ∷ ws) (split_spaced w words q.0 q.1)

joined : (word : List ℕ) (words : Words) → join_with_byte 32 (word ∷ words) ≡ word ++ spaced words
joined word [] = sym (append-nil word)
joined word (w ∷ words) = ap (λ (bytes : List ℕ). word ++ 32 ∷ bytes) (joined w words)

-- a line is its words, parted by one space each
pub line_is : (line word : List ℕ) (words : Words) → words_of 32 line ≡ word ∷ words → line ≡ word ++ spaced words
line_is line word words e = sym (join_with_byte-slice_split 32 line) ∙ ap (join_with_byte 32) e ∙ joined word words

-- ---- entries

-- an entry's words, as those of its index, its client and its operation
abbrev pub entry_codec : Codec (ℕ × Entry)
entry_codec = via (λ x. (x.0, record { client = x.1.0; op = x.1.1 })) (λ y. (y.0, (y.1.client, y.1.op))) (int ⊗ int ⊗ op)

exact_entry : Exact (λ y. FitsEntry y.0 y.1) entry_codec
exact_entry = exact_via (λ x. (x.0, record { client = x.1.0; op = x.1.1 })) (λ y. (y.0, (y.1.client, y.1.op))) (exact_both exact_int (exact_both exact_int exact_op)) (λ x. refl) (λ y. refl) (λ x f. f) (λ y f. f)

-- a value with these words behind it, and with none
abbrev followed : {A : Type 0} → A → Words → Option (A × Words)
followed x words = Some (x, words)

abbrev ended : {A : Type 0} → A → Option (A × Words)
ended x = Some (x, [])

-- what is read wholly has no words behind it
whole_is : {A : Type 0} (o : Option (A × Words)) (x : A) → whole o ≡ Some x → o ≡ ended x
whole_is None x e = absurd cc
whole_is {A} (Some y) x e = last y.0 y.1 e
  where
    last : (a : A) (words : Words) → if_last a words ≡ Some x → followed a words ≡ ended x
    last a [] e = ap ended (same_some e)
    last a (w ∷ words) e = absurd cc

-- what is read is the text of the entry, which fits
pub entry_taken : (line : List ℕ) (y : ℕ × Entry) → entry_of line ≡ Some y → (line ≡ entry_text y.0 y.1) × FitsEntry y.0 y.1
unfolding entry_at
entry_taken line y e =
    let t = exact_entry.takes (words_of 32 line) y [] (whole_is _ y e) in
    (line_is line (decimal y.0) (decimal y.1.client ∷ op_words y.1.op) (t.0 ∙ append-nil _), t.1)

-- the text of an entry is read again
pub entry_again : (index : ℕ) (entry : Entry) → FitsEntry index entry → entry_of (entry_text index entry) ≡ Some (index, entry)
unfolding entry_at
entry_again index entry f =
    let plain = exact_entry.plain (index, entry) f in
    let words = split_spaced (decimal index) (decimal entry.client ∷ op_words entry.op) plain.0 plain.1 in
    let read : entry_codec.reads (entry_codec.spell (index, entry)) ≡ ended (index, entry) = subst (λ (ws : Words). entry_codec.reads ws ≡ ended (index, entry)) (append-nil (entry_codec.spell (index, entry))) (exact_entry.again (index, entry) [] f) in
    rw (words, read) refl

-- the text of an entry says this entry and no other
pub read_only : (line : List ℕ) (index : ℕ) (entry : Entry) → FitsEntry index entry → line ≡ entry_text index entry → entry_of line ≡ Some (index, entry)
read_only line index entry f e = ap entry_of e ∙ entry_again index entry f

-- a byte that is no newline
abbrev IsOther : ℕ → Type 0
IsOther b = eqb b 10 ≡ false

-- what has no newline, by a test and by each byte
pub no_newline : (bytes : List ℕ) → list_all (is_in_word 10) bytes ≡ true → All IsOther bytes
no_newline [] h = All-nil IsOther
no_newline (b ∷ bytes) h =
    let parts = and_parts (is_in_word 10 b) (list_all (is_in_word 10) bytes) h in
    All-cons IsOther b bytes (not_equal (eqb b 10) parts.0) (no_newline bytes parts.1)

-- plain words that are parted by spaces are one line
one_line : (words : Words) → AllByRecursion IsPlain words → All IsOther (spaced words)
one_line [] p = All-nil IsOther
one_line (word ∷ words) p =
    All-cons IsOther 32 (word ++ spaced words) refl (All-append IsOther word (spaced words) (no_newline word p.0.1) (one_line words p.1))

-- the text of an entry is one line
pub entry_is_line : (index : ℕ) (entry : Entry) → FitsEntry index entry → IsOneLine (entry_text index entry)
entry_is_line index entry f =
    let plain = exact_entry.plain (index, entry) f in
    All-append IsOther (decimal index) (spaced (decimal entry.client ∷ op_words entry.op)) (no_newline (decimal index) plain.0.1)
    (one_line (decimal entry.client ∷ op_words entry.op) plain.1)

-- so what is read is the text of an entry
pub read_found : (line : List ℕ) (r : Result (ℕ × Entry) ReadFault) → Says r (entry_of line) → IfOk r (λ y. (line ≡ entry_text y.0 y.1) × FitsEntry y.0 y.1)
read_found line (Ok y) said = entry_taken line y said
read_found line (Err fault) said = tt
