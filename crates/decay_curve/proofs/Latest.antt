-- Additions that came before the latest 200 weigh nothing.
use Rattle.std.proofs.Common.{◌≡◌, ℕ, suc, ◌+◌, ◌-◌, ◌/◌, ◌^◌, ◌<◌, ◌≤◌, List, [], ◌∷◌, length, drop, refl, sym, ap, ◌∙◌, zero-add, inl, inr, arith}
use Rattle.std.specs.List.{sum_by}
use Rattle.std.proofs.lemmas.Bool.{cases_lt}
use Rattle.std.proofs.lemmas.List.Sums.{sum_by-cons}
use Rattle.std.proofs.lemmas.List.Elements.{All-head, All-tail}
use Rattle.circular_buffer.specs.Buffer.{keep_last}
use Rattle.space_model.specs.declared.spaces.Added.{Added}
use Rattle.space_model.specs.Span.{pages_end}
use Rattle.space_model.specs.Pace.{weighed, limit_at}
use Rattle.decay_curve.specs.Dated.{AreUpTo}
use Rattle.space_model.proofs.Decay.{weighed_old}

rest_up_to : (epoch : ℕ) (a : Added) (rest : List Added) → AreUpTo epoch (a ∷ rest) → AreUpTo epoch rest
rest_up_to epoch a rest up = record {
  rising = λ i j d lt within. up.rising (suc i) (suc j) d (omega arith) (omega arith);
  past = All-tail (λ a. a.epoch ≤ epoch) a rest up.past;
  pages = All-tail (λ a. a.pages ≤ pages_end - 512) a rest up.pages;
}

-- the first one is at least as many epochs old as others came after it
first_age : (epoch : ℕ) (a : Added) (rest : List Added) → AreUpTo epoch (a ∷ rest) → a.epoch + length rest ≤ epoch
first_age epoch a [] up = let here : a.epoch ≤ epoch = All-head (λ a. a.epoch ≤ epoch) a [] up.past in omega arith
first_age epoch a (b ∷ rest) up =
    let later : a.epoch < b.epoch = up.rising 0 1 a (omega arith) (omega arith) in
    omega (arith, later, first_age epoch b rest (rest_up_to epoch a (b ∷ rest) up))

-- so all additions weigh as much as the latest 200
pub latest_weigh : (epoch : ℕ) (added : List Added) → AreUpTo epoch added → sum_by (weighed epoch) (keep_last 200 added) ≡ sum_by (weighed epoch) added
latest_weigh epoch [] up = refl
latest_weigh epoch (a ∷ rest) up = elim (cases_lt (length rest) 200) [
  | inl few ↦ let all : suc (length rest) - 200 ≡ 0 = omega arith in ap (λ n. sum_by (weighed epoch) (drop n (a ∷ rest))) all
  | inr many ↦
      let age : a.epoch + length rest ≤ epoch = first_age epoch a rest up in
      let less : suc (length rest) - 200 ≡ suc (length rest - 200) = omega arith in
      let old : weighed epoch a ≡ 0 = weighed_old epoch a (omega arith) in
      ap (λ n. sum_by (weighed epoch) (drop n (a ∷ rest))) less
      ∙ latest_weigh epoch rest (rest_up_to epoch a rest up)
      ∙ sym (sum_by-cons (weighed epoch) a rest ∙ ap (λ n. n + sum_by (weighed epoch) rest) old ∙ zero-add _)
]

-- and they give the limit
pub kept_limit : (epoch : ℕ) (added : List Added) → AreUpTo epoch added → sum_by (weighed epoch) (keep_last 200 added) / 2 ^ 24 ≡ limit_at epoch added
kept_limit epoch added up = ap (λ n. n / 2 ^ 24) (latest_weigh epoch added up)
