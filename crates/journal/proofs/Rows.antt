-- Values of several kinds, each of which begins with the word of its label.
use Rattle.std.proofs.Common.{◌≡◌, ℕ, Bool, true, false, cond, List, [], ◌∷◌, ◌++◌, Option, None, Some, refl, sym, ap, subst, ◌∙◌}
use Rattle.std.specs.Prelude.{option_map, slice_index_or}
use Rattle.std.specs.List.{AllByRecursion}
use Rattle.std.specs.Str.{bytes_eq}
use Rattle.std.proofs.lemmas.Option.{cond_some}
use Rattle.journal.specs.Codec.{Codec, Words, made}
unfoldable use Rattle.journal.specs.Labels.{label_of, label_word, by_label, if_spelled, place_of}
use Rattle.journal.specs.declared.labels.Label.{Label}
use Rattle.journal.specs.declared.labels.Label.TheVariants as labels
use Rattle.journal.specs.declared.labels.TheConstants.{TABLE}
use Rattle.journal.proofs.Exact.{Exact, IsPlain, same_bytes, map_some, then_some}
use Rattle.journal.proofs.KnownWords.{known}

-- ---- one row

-- what a row reads is the word of its label and what it was made of
pub row_takes : {A B : Type 0} {F : A → Type 0} {c : Codec A} (label : Label) (make : A → B) (spell : B → Words) (G : B → Type 0) → Exact F c
    → ((x : A) → spell (make x) ≡ label_word label ∷ c.spell x) → ((x : A) → F x → G (make x))
    → (words : Words) (y : B) (behind : Words) → made make c words ≡ Some (y, behind) → (label_word label ∷ words ≡ spell y ++ behind) × G y
row_takes {A} {B} {F} {c} label make spell G p spelled fits words y behind e =
    let m = map_some (λ (a : A × Words). (make a.0, a.1)) (c.reads words) (y, behind) e in
    let value : make m.0.0 ≡ y = ap (λ (r : B × Words). r.0) m.2 in
    let rest : m.0.1 ≡ behind = ap (λ (r : B × Words). r.1) m.2 in
    let t = p.takes words m.0.0 m.0.1 m.1 in
    subst (λ (z : B). (label_word label ∷ words ≡ spell z ++ behind) × G z) value
    (ap (λ (ws : Words). label_word label ∷ ws) (t.0 ∙ ap (λ (ws : Words). c.spell m.0.0 ++ ws) rest) ∙ sym (ap (λ (ws : Words). ws ++ behind) (spelled m.0.0)), fits m.0.0 t.1)

-- a value that a row reads again, whatever stands behind it, and whose words have no space
pub record Shown {B : Type 0} (fields : Label → Words → Option (B × Words)) (spell : B → Words) (y : B) : Type 0 where
  pub again : (behind : Words) → by_label fields (spell y ++ behind) ≡ Some (y, behind)
  pub plain : AllByRecursion IsPlain (spell y)

pub row_shows : {A B : Type 0} {F : A → Type 0} {c : Codec A} (fields : Label → Words → Option (B × Words)) (spell : B → Words) (label : Label) (make : A → B) (x : A) → Exact F c
    → spell (make x) ≡ label_word label ∷ c.spell x → ((words : Words) → fields label words ≡ made make c words) → F x → Shown fields spell (make x)
row_shows {A} {B} {F} {c} fields spell label make x p spelled row f = record {
  again = λ behind. rw (spelled, (known label).found, row (c.spell x ++ behind), p.again x behind f) refl;
  plain = rw spelled ((known label).plain, p.plain x f);
}

-- ---- all rows

-- a test that did not fail
kept_if : {A : Type 0} (b : Bool) (o : Option A) (y : A) → cond b o None ≡ Some y → o ≡ Some y
kept_if true o y e = e
kept_if false o y e = absurd cc

-- the label of a word has this word
label_spelled : (word : List ℕ) (label : Label) → label_of word ≡ Some label → word ≡ label_word label
unfolding label_of
label_spelled word label e =
    let tried = slice_index_or TABLE (place_of word) labels.Look in
    let c = cond_some (bytes_eq word (label_word tried)) tried label (kept_if _ (if_spelled word tried) label e) in
    same_bytes word (label_word tried) c.0 ∙ ap label_word c.1

pub exact_rows : {B : Type 0} (fields : Label → Words → Option (B × Words)) (spell : B → Words) (G : B → Type 0)
    → ((label : Label) (words : Words) (y : B) (behind : Words) → fields label words ≡ Some (y, behind) → (label_word label ∷ words ≡ spell y ++ behind) × G y)
    → ((y : B) → G y → Shown fields spell y)
    → Exact G (record { spell = spell; reads = by_label fields })
exact_rows {B} fields spell G taken shown = record { takes = takes; again = λ y behind g. (shown y g).again behind; plain = λ y g. (shown y g).plain }
  where
    takes : (words : Words) (y : B) (behind : Words) → by_label fields words ≡ Some (y, behind) → (words ≡ spell y ++ behind) × G y
    takes [] y behind e = absurd cc
    takes (word ∷ words) y behind e =
        let m = then_some (λ (x : Label × Words). fields x.0 x.1) (option_map (λ (l : Label). (l, words)) (label_of word)) (y, behind) e in
        let n = map_some (λ (l : Label). (l, words)) (label_of word) m.0 m.1 in
        let t = taken n.0 words y behind (subst (λ (x : Label × Words). fields x.0 x.1 ≡ Some (y, behind)) (sym n.2) m.2) in
        (ap (λ (w : List ℕ). w ∷ words) (label_spelled word n.0 n.1) ∙ t.0, t.1)
