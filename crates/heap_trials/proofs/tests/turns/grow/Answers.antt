use Rattle.heap_shared.proofs.Words.{◌≡◌, ◌<◌, ◌∙◌, ℕ, IsTrue, true, false, [], None, nat_lt, arith, refl, sym, ap, subst, cond, nat_tests, entry_of, Alloc, Counts, GrowDone, Counted, NoArena, Life, Absent, Dying, Live, Space, counts_of, Mine, mine, IsQuiet, Sound, is_live, space_after, stands, stays, number, seen, space_of_history}
use Rattle.space_model.specs.Clients.{is_in}
use Rattle.space_model.specs.Step.{is_range_or_no}
use Rattle.space_model.specs.declared.Answer.{Answer}
use Rattle.space_model.specs.declared.Heard.{Heard}
use Rattle.hook_api.specs.Asked.{AskFacts, heard_in}
use Rattle.hook_api.specs.Hooks.{Answers as AnswersTo}
use Rattle.heap_trials.proofs.tests.turns.grow.Goals as goal

-- an arena with a client is live
bound_live : (s : Space) (client : ℕ) → Sound s → is_in client s.bound ≡ true → is_live s.life ≡ true
bound_live s client sound bound = by s.life sound.quiet
  where
    none : s.bound ≡ [] → ⊥
    none empty = let e = ap (is_in client) empty in absurd (cc)

    by : (life : Life) → IsQuiet life s → is_live life ≡ true
    by Live quiet = refl
    by (Dying c) quiet = absurd (none quiet.2)
    by Absent quiet = absurd (none quiet.2)

-- who asks for the counts stays bound
counts_bound : (s : Space) (client : ℕ) → (mine client (space_after s (entry_of client Counts))).bound ≡ (mine client s).bound
counts_bound s client = elim (is_live s.life) as (λ v. is_in client (cond v (stays s (Counted (counts_of s))) (stays s NoArena)).after.bound ≡ is_in client s.bound) [ true ↦ refl | false ↦ refl ]

-- a client may have its arena grow by what a box answers
grow_stands : (s : Space) (client : ℕ) (asked : AskFacts) → Sound s → client < 32 → is_in client s.bound ≡ true → asked.ask ≡ Alloc true None 512 512 → AnswersTo asked.ask asked.answer →
    IsTrue (stands s (entry_of client (GrowDone (heard_in asked) None)))
unfolding lib.Count.ones
grow_stands s client asked sound few bound is answers =
    let below : nat_lt client 32 ≡ true = grind (arith, nat_tests) in
    let kind : is_range_or_no asked.answer ≡ true = ranges asked.answer (subst (λ a. AnswersTo a asked.answer) is answers) in
    rw below (rw is (rw (bound_live s client sound bound) (rw kind (rw bound refl))))
  where
    ranges : (answer : Answer) → AnswersTo (Alloc true None 512 512) answer → is_range_or_no answer ≡ true
    ranges answer answers = grind arith

pub turn-requires-2-clause-may : goal.turn-requires-2-clause-may
turn-requires-2-clause-may g c =
    let t = c.in_ok-turn.ensures.turned in
    let n = number c.args.pass.now in
    let same = c.turn.ensures.numbers.0 in
    let few : number c.turn.new.pass < 32 = (let a = c.requires.client in omega arith) in
    let left = ap (λ (m : Mine). m.bound) t.left ∙ counts_bound (space_of_history c.args.lock.now t.before) n ∙ ap (λ (m : Mine). m.bound) t.found ∙ c.requires.bound in (
      λ no. (let room = t.room c.requires.client in omega (arith, room)),
      λ s sound owns. subst (λ (h : Heard). IsTrue (stands s (entry_of (number c.turn.new.pass) (GrowDone h None)))) (sym c.heard.ensures) (grow_stands s (number c.turn.new.pass) c.ask-asked.result sound few
          (ap (λ (m : Mine). m.bound) owns ∙ subst (λ k. is_in k (space_of_history c.args.lock.now (seen c.turn.new.pass)).bound ≡ true) (sym same) left)
          c.ask-asked.ensures.of_ask c.ask-asked.ensures.step.box.answers),
      sym c.heard.ensures,
    )
