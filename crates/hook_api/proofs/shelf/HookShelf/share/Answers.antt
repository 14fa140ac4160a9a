use Rattle.hook_api.proofs.Words.{◌≡◌, ◌<◌, ◌∙◌, List, get_or, length, slice_index, ap, sym, refl, arith, Began, Account, BoxState, Shelf, no_account, no_box, length-map}
use Rattle.hook_api.proofs.SeatSums.{at_within}
use Rattle.hook_api.proofs.ShareKeeps.{opens, blank_refuses}
use Rattle.hook_api.proofs.ShareDeals.{account_at}
use Rattle.hook_api.proofs.shelf.HookShelf.share.Goals as goal

pub new-requires : goal.new-requires
new-requires g c =
    let desks = c.desks_of-desks.result.items in
    let all : length desks ≡ 32 = sym (length-map desks _) ∙ (ap length c.desks_of-desks.ensures ∙ (length-map c.self.inside.boxes.items _ ∙ c.self.invariant)) in
    opens _ _ _ desks refl (λ i. blank_refuses i 32)
    (λ i x there.
    let within = at_within desks i x no_box there in let inside : i < 32 = (let a = within.0 in omega arith) in
    c.own_counts.ensures i inside ∙ (ap (λ (l : List BoxState). (get_or l i no_box).account.refusals) c.deref.ensures.value ∙ ap (λ (b : BoxState). b.account.refusals) within.1))
    all

pub invariant_of-result-in-Err : goal.invariant_of-result-in-Err
invariant_of-result-in-Err g c =
    sym (length-map c.boxes_of-boxes.result.items _) ∙ (ap length c.boxes_of-boxes.ensures ∙ (length-map c.in-Err.refused.slots.items _ ∙ (ap length c.in-Err.ensures.err
    ∙ (sym (length-map c.desks_of-desks.result.items _) ∙ (ap length c.desks_of-desks.ensures ∙ (length-map c.self.inside.boxes.items _ ∙ c.self.invariant))))))

pub returns-clause-own : goal.returns-clause-own
returns-clause-own g c n below =
    ap (λ (b : Began). slice_index b.own n) c.in-Ok-new.ensures.ok.5
    ∙ (c.own_counts.ensures n below
    ∙ (ap (λ (l : List BoxState). (get_or l n no_box).account.refusals) c.deref.ensures.value
    ∙ ap (λ (a : Account). a.refusals) (sym (account_at c.desks_of-desks.result.items n)
    ∙ ap (λ (l : List Account). get_or l n no_account) (c.desks_of-desks.ensures ∙ ap (λ (s : Shelf). s.accounts) c.self.view_is))))
