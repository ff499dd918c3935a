-- What each statement was that was not refused.
use Rattle.std.proofs.Common.{◌≡◌, ℕ, ◌+◌, ◌≤◌, ◌==◌, ◌&&◌, ◌||◌, true, not, nat_lt, nat_le, List, [], ◌∷◌, ◌++◌, length, slice_get, Option, Some, None, is_none, Ok, refl, sym, ap, ◌∙◌, subst, arith, codes}
use Rattle.std.proofs.lemmas.Bool.{ltb-true, leb-true, eqb-true}
use Rattle.std.proofs.lemmas.List.{append-nil, append_assoc}
use Rattle.ras_text.specs.Numbers.{number}
use Rattle.ras_device.specs.declared.act.Act.{Act}
use Rattle.ras_device.specs.declared.act.Act.TheVariants.{Raise}
use Rattle.board_plan.specs.declared.notes.Step.{Step}
use Rattle.board_plan.specs.declared.notes.Step.TheVariants as step
use Rattle.board_plan.specs.declared.ops.Op.{Op}
use Rattle.board_plan.specs.declared.ops.Op.TheVariants.{Nop, Sbi, Set, Load, Save, Store, Inc, Jump, Jlt, Sret, Ack, Unplug}
use Rattle.board_plan.specs.declared.ops.Reg.{Reg}
use Rattle.board_plan.specs.declared.ops.Reg.TheVariants.{A6, A7, Sepc, Spp, Spie, Sie}
use Rattle.board_plan.specs.declared.plan.Reporter.{Reporter}
use Rattle.board_plan.specs.declared.plan.LineFault.TheVariants.{Word, Count, Range, Unknown, Twice, Full}
use Rattle.board_plan.specs.Words.{is, first_of_two, severity, register, value_of, any_number, number_upto, number_from_1_to, number_below, known_below, op_address, event_id, platform_id, is_digits, entry_number, hart_entry, reporter_entry, entry}
use Rattle.board_plan.specs.OpForms.{bare_op, argument, argument_at, arguments, call_of, sbi_op, set_op, load_op, save_op, store_op, inc_op, jump_op, jlt_op, ack_op, unplug_op, op_of}
use Rattle.board_plan.specs.Script.{Half, has_event, has_number, has_record, has_op, has_start, has_device, is_number, is_list, total_budget, most_records, with_event, bank_of, with_bank, plat_of, with_plat, gather_of, with_gather, record_of, with_record, with_address, placed, with_op, start_of, with_start, fresh_list, device_of, added, with_list, with_device, with_reporter, known_list, with_one_act, error_of, error_act, with_error, raise_of, with_raise, with_act, steps_of, with_entries, with_schedule, statement}
use Rattle.std.specs.List.{list_any}
use Rattle.board_script.proofs.Chains.{Each}
use Rattle.board_script.proofs.Steps.{bind_then, test_then, found_then, if_then, ok_is, not_true, both_true, any_is, upto_is, from_1_is, below_is, known_is, address_is, event_id_is, platform_id_is}
use Rattle.board_script.proofs.Fits.{IsU64, ValueFits, ArgsFit, OpFits, ActFits, ReporterFits, devices_of, DeviceFits, StepFits, Taken, an_event, a_bank, a_plat, a_gather, a_record, an_address, an_op, a_start, a_reporter, an_act, a_schedule}

-- ---- Events, banks and records ----

event_taken : (h k : Half) (ws : List (List ℕ)) → with_event h ws ≡ Ok k → Taken h k
unfolding with_event
event_taken h k (id ∷ how ∷ []) e =
    bind_then (event_id id) _ k _ e (λ n made e1.
    bind_then (first_of_two (codes "inject") (codes "noinject") how) _ k _ e1 (λ inject how_is e2.
    test_then Twice (not (has_event n h.plan.events)) _ k _ e2 (λ fresh e3.
    test_then Full (nat_lt (length h.plan.events) 8) _ k _ e3 (λ room e4.
    an_event (record { id = record { 0 = n }; inject = inject })
    (record {
      small = (event_id_is id n made).0;
      may = (event_id_is id n made).1;
      fresh = not_true _ fresh;
      room = ltb-true _ 8 room;
    }) (sym (ok_is _ k e4))))))
event_taken h k _ e = cc

bank_taken : (h k : Half) (ws : List (List ℕ)) → with_bank h ws ≡ Ok k → Taken h k
unfolding with_bank bank_of
bank_taken h k (home ∷ scope ∷ recs ∷ []) e =
    bind_then (number_below h.plan.harts home) _ k _ e (λ n home_is e1.
    bind_then (first_of_two (codes "global") (codes "local") scope) _ k _ e1 (λ global scope_is e2.
    bind_then (number_from_1_to (most_records h.plan.version) recs) _ k _ e2 (λ r recs_is e3.
    test_then Full (nat_lt (length h.plan.banks) 4) _ k _ e3 (λ room e4.
    let some = from_1_is (most_records h.plan.version) recs r recs_is in
    a_bank n global r (below_is h.plan.harts home n home_is) some.0 some.1 (ltb-true _ 4 room) (sym (ok_is _ k e4))))))
bank_taken h k _ e = cc

plat_taken : (h k : Half) (ws : List (List ℕ)) → with_plat h ws ≡ Ok k → Taken h k
unfolding with_plat plat_of
plat_taken h k (n ∷ id ∷ []) e =
    bind_then (known_below (length h.plan.banks) n) _ k _ e (λ i known e1.
    bind_then (platform_id id) _ k _ e1 (λ id made e2.
    test_then Unknown (has_event id h.plan.events) _ k _ e2 (λ there e3.
    found_then Unknown (slice_get h.plan.banks i) _ k _ e3 (λ b is_b e4.
    test_then Twice (is_none b.plat) _ k _ e4 (λ fresh e5.
    a_plat i id b is_b (record {
      small = (platform_id_is _ id made).0;
      is = (platform_id_is _ id made).1;
      there = there;
    }) (sym (ok_is _ k e5)))))))
plat_taken h k _ e = cc

gather_taken : (h k : Half) (ws : List (List ℕ)) → h.plan.version ≡ 2 → with_gather h ws ≡ Ok k → Taken h k
unfolding with_gather gather_of
gather_taken h k (n ∷ count ∷ []) two e =
    bind_then (known_below (length h.plan.banks) n) _ k _ e (λ i known e1.
    bind_then (number_from_1_to 4 count) _ k _ e1 (λ c made e2.
    found_then Unknown (slice_get h.plan.banks i) _ k _ e2 (λ b is_b e3.
    test_then Twice (not (has_number i h.gathered)) _ k _ e3 (λ fresh e4.
    a_gather i c b is_b two (from_1_is 4 count c made).0 (from_1_is 4 count c made).1 (sym (ok_is _ k e4))))))
gather_taken h k _ two e = cc

record_taken : (h k : Half) (ws : List (List ℕ)) → with_record h ws ≡ Ok k → Taken h k
unfolding with_record record_of
record_taken h k (n ∷ r ∷ control ∷ count ∷ []) e =
    bind_then (known_below (length h.plan.banks) n) _ k _ e (λ i known e1.
    found_then Unknown (slice_get h.plan.banks i) _ k _ e1 (λ b is_b e2.
    bind_then (known_below b.recs r) _ k _ e2 (λ j within e3.
    bind_then (number_upto 0xff control) _ k _ e3 (λ c control_is e4.
    bind_then (number_upto 65535 count) _ k _ e4 (λ m count_is e5.
    test_then Twice (not (has_record i j h.plan.recs)) _ k _ e5 (λ fresh e6.
    a_record (record { bank = i; rec = j; control = c; count = m })
    (record {
      there = record { decl = b; there = is_b; within = known_is b.recs r j within };
      control = upto_is 0xff control c control_is;
      count = upto_is 65535 count m count_is;
      fresh = not_true _ fresh;
    }) (sym (ok_is _ k e6))))))))
record_taken h k _ e = cc

-- ---- Ops and starts ----

address_taken : (h k : Half) (ws : List (List ℕ)) → with_address h ws ≡ Ok k → Taken h k
unfolding with_address
address_taken h k (addr ∷ []) e =
    bind_then (op_address addr) _ k _ e (λ n made e1. an_address n (address_is addr n made) (sym (ok_is _ k e1)))
address_taken h k _ e = cc

bare_fits : (o op : Op) (ws : List (List ℕ)) → OpFits o → bare_op o ws ≡ Ok op → OpFits op
unfolding bare_op
bare_fits o op [] f e = subst OpFits (ok_is o op e) f
bare_fits o op (w ∷ ws) f e = cc

argument_small : (o : Option (List ℕ)) (n : ℕ) → argument o ≡ Ok n → IsU64 n
argument_small None n e = let same : 0 ≡ n = cc in omega arith
argument_small (Some word) n e = any_is word n e

argument_at_small : (ws : List (List ℕ)) (i n : ℕ) → argument_at ws i ≡ Ok n → IsU64 n
unfolding argument_at
argument_at_small ws i n e = argument_small (slice_get ws i) n e

arguments_fit : (ws : List (List ℕ)) (args : List ℕ) → arguments ws ≡ Ok args → ArgsFit args
unfolding arguments
arguments_fit ws args e =
    bind_then (argument_at ws 0) _ args _ e (λ a a_is e1.
    bind_then (argument_at ws 1) _ args _ e1 (λ b b_is e2.
    bind_then (argument_at ws 2) _ args _ e2 (λ c c_is e3.
    bind_then (argument_at ws 3) _ args _ e3 (λ d d_is e4.
    bind_then (argument_at ws 4) _ args _ e4 (λ f f_is e5.
    record {
      a = a;
      b = b;
      c = c;
      d = d;
      e = f;
      are = sym (ok_is _ args e5);
      small_a = argument_at_small ws 0 a a_is;
      small_b = argument_at_small ws 1 b b_is;
      small_c = argument_at_small ws 2 c c_is;
      small_d = argument_at_small ws 3 d d_is;
      small_e = argument_at_small ws 4 f f_is;
    })))))

sbi_fits : (op : Op) (ws : List (List ℕ)) → sbi_op ws ≡ Ok op → OpFits op
unfolding sbi_op call_of
sbi_fits op (eid ∷ fid ∷ ws) e =
    test_then Count (nat_le (length ws) 5) _ op _ e (λ few e1.
    bind_then (any_number eid) _ op _ e1 (λ a a_is e2.
    bind_then (any_number fid) _ op _ e2 (λ b b_is e3.
    bind_then (arguments ws) _ op _ e3 (λ args args_are e4.
    subst OpFits (ok_is (Sbi a b args) op e4) (any_is eid a a_is, any_is fid b b_is, arguments_fit ws args args_are)))))
sbi_fits op _ e = cc

value_fits : (r : Reg) (word : List ℕ) (n : ℕ) → value_of r word ≡ Ok n → ValueFits r n
unfolding value_of
value_fits A6 word n e = any_is word n e
value_fits A7 word n e = any_is word n e
value_fits Sepc word n e = any_is word n e
value_fits Spp word n e = upto_is 1 word n e
value_fits Spie word n e = upto_is 1 word n e
value_fits Sie word n e = upto_is 1 word n e

set_fits : (op : Op) (ws : List (List ℕ)) → set_op ws ≡ Ok op → OpFits op
unfolding set_op
set_fits op (reg ∷ value ∷ []) e =
    bind_then (register reg) _ op _ e (λ r r_is e1.
    bind_then (value_of r value) _ op _ e1 (λ n n_is e2.
    subst OpFits (ok_is (Set r n) op e2) (value_fits r value n n_is)))
set_fits op _ e = cc

load_fits : (op : Op) (ws : List (List ℕ)) → load_op ws ≡ Ok op → OpFits op
unfolding load_op
load_fits op (reg ∷ addr ∷ []) e =
    bind_then (register reg) _ op _ e (λ r r_is e1.
    bind_then (any_number addr) _ op _ e1 (λ n n_is e2.
    subst OpFits (ok_is (Load r n) op e2) (any_is addr n n_is)))
load_fits op _ e = cc

save_fits : (op : Op) (ws : List (List ℕ)) → save_op ws ≡ Ok op → OpFits op
unfolding save_op
save_fits op (reg ∷ addr ∷ []) e =
    bind_then (register reg) _ op _ e (λ r r_is e1.
    bind_then (any_number addr) _ op _ e1 (λ n n_is e2.
    subst OpFits (ok_is (Save r n) op e2) (any_is addr n n_is)))
save_fits op _ e = cc

store_fits : (op : Op) (ws : List (List ℕ)) → store_op ws ≡ Ok op → OpFits op
unfolding store_op
store_fits op (addr ∷ value ∷ []) e =
    bind_then (any_number addr) _ op _ e (λ a a_is e1.
    bind_then (any_number value) _ op _ e1 (λ n n_is e2.
    subst OpFits (ok_is (Store a n) op e2) (any_is addr a a_is, any_is value n n_is)))
store_fits op _ e = cc

inc_fits : (op : Op) (ws : List (List ℕ)) → inc_op ws ≡ Ok op → OpFits op
unfolding inc_op
inc_fits op (addr ∷ []) e =
    bind_then (any_number addr) _ op _ e (λ a a_is e1. subst OpFits (ok_is (Inc a) op e1) (any_is addr a a_is))
inc_fits op _ e = cc

jump_fits : (op : Op) (ws : List (List ℕ)) → jump_op ws ≡ Ok op → OpFits op
unfolding jump_op
jump_fits op (pc ∷ []) e =
    bind_then (any_number pc) _ op _ e (λ a a_is e1. subst OpFits (ok_is (Jump a) op e1) (any_is pc a a_is))
jump_fits op _ e = cc

jlt_fits : (op : Op) (ws : List (List ℕ)) → jlt_op ws ≡ Ok op → OpFits op
unfolding jlt_op
jlt_fits op (addr ∷ value ∷ pc ∷ []) e =
    bind_then (any_number addr) _ op _ e (λ a a_is e1.
    bind_then (any_number value) _ op _ e1 (λ n n_is e2.
    bind_then (any_number pc) _ op _ e2 (λ p p_is e3.
    subst OpFits (ok_is (Jlt a n p) op e3) (any_is addr a a_is, any_is value n n_is, any_is pc p p_is))))
jlt_fits op _ e = cc

ack_fits : (op : Op) (ws : List (List ℕ)) → ack_op ws ≡ Ok op → OpFits op
unfolding ack_op
ack_fits op (bank ∷ []) e =
    bind_then (number_upto 255 bank) _ op _ e (λ a a_is e1.
    subst OpFits (ok_is (Ack a) op e1) (upto_is 255 bank a a_is))
ack_fits op _ e = cc

unplug_fits : (op : Op) (ws : List (List ℕ)) → unplug_op ws ≡ Ok op → OpFits op
unfolding unplug_op
unplug_fits op (r ∷ []) e =
    bind_then (number_upto 255 r) _ op _ e (λ a a_is e1. subst OpFits (ok_is (Unplug a) op e1) (upto_is 255 r a a_is))
unplug_fits op _ e = cc

op_fits : (op : Op) (name : List ℕ) (ws : List (List ℕ)) → op_of name ws ≡ Ok op → OpFits op
unfolding op_of
op_fits op name ws e =
    if_then (is name (codes "nop")) _ _ _ _ e (λ t e1. bare_fits Nop op ws tt e1) (λ f e1.
    if_then (is name (codes "sbi")) _ _ _ _ e1 (λ t e2. sbi_fits op ws e2) (λ f e2.
    if_then (is name (codes "set")) _ _ _ _ e2 (λ t e3. set_fits op ws e3) (λ f e3.
    if_then (is name (codes "load")) _ _ _ _ e3 (λ t e4. load_fits op ws e4) (λ f e4.
    if_then (is name (codes "save")) _ _ _ _ e4 (λ t e5. save_fits op ws e5) (λ f e5.
    if_then (is name (codes "store")) _ _ _ _ e5 (λ t e6. store_fits op ws e6) (λ f e6.
    if_then (is name (codes "inc")) _ _ _ _ e6 (λ t e7. inc_fits op ws e7) (λ f e7.
    if_then (is name (codes "jump")) _ _ _ _ e7 (λ t e8. jump_fits op ws e8) (λ f e8.
    if_then (is name (codes "jlt")) _ _ _ _ e8 (λ t e9. jlt_fits op ws e9) (λ f e9.
    if_then (is name (codes "sret")) _ _ _ _ e9 (λ t e10. bare_fits Sret op ws tt e10) (λ f e10.
    if_then (is name (codes "ack")) _ _ _ _ e10 (λ t e11. ack_fits op ws e11) (λ f e11.
    if_then (is name (codes "unplug")) _ _ _ _ e11 (λ t e12. unplug_fits op ws e12) (λ f e12. cc))))))))))))

op_taken : (h k : Half) (ws : List (List ℕ)) → with_op h ws ≡ Ok k → Taken h k
unfolding with_op placed
op_taken h k [] e = cc
op_taken h k (name ∷ ws) e =
    bind_then (op_of name ws) _ k _ e (λ o made e1.
    test_then Twice (not (has_op h.next h.plan.ops)) _ k _ e1 (λ fresh e2.
    test_then Full (nat_lt (length h.plan.ops) 4096) _ k _ e2 (λ room e3.
    an_op o (op_fits o name ws made) (not_true _ fresh) (ltb-true _ 4096 room) (sym (ok_is _ k e3)))))

start_taken : (h k : Half) (ws : List (List ℕ)) → with_start h ws ≡ Ok k → Taken h k
unfolding with_start start_of
start_taken h k (hart ∷ pc ∷ budget ∷ []) e =
    bind_then (number_below h.plan.harts hart) _ k _ e (λ n n_is e1.
    bind_then (any_number pc) _ k _ e1 (λ p p_is e2.
    bind_then (number_upto 10000 budget) _ k _ e2 (λ b b_is e3.
    test_then Twice (not (has_start n h.plan.starts)) _ k _ e3 (λ fresh e4.
    test_then Full (nat_le (total_budget h.plan.starts + b) 80000) _ k _ e4 (λ room e5.
    a_start (record { hart = n; pc = p; budget = b })
    (record {
      hart = below_is h.plan.harts hart n n_is;
      pc = any_is pc p p_is;
      budget = upto_is 10000 budget b b_is;
      fresh = not_true _ fresh;
      room = leb-true _ 80000 room;
    }) (sym (ok_is _ k e5)))))))
start_taken h k _ e = cc

-- ---- Reporters and their acts ----

added_taken : (h k : Half) (r : Reporter) → ReporterFits r → DeviceFits (devices_of h.plan.reporters) r.device
    → added h r ≡ Ok k → Taken h k
unfolding added
added_taken h k r f d e =
    test_then Full (nat_lt (length h.plan.reporters) 8) _ k _ e (λ room e1.
    a_reporter r f d (ltb-true _ 8 room) (sym (ok_is _ k e1)))

list_taken : (h k : Half) (ws : List (List ℕ)) → with_list h ws ≡ Ok k → Taken h k
unfolding with_list
list_taken h k [] e = added_taken h k fresh_list (refl, omega arith, tt) tt e
list_taken h k (w ∷ ws) e = cc

-- a device that is looked for in a list of reporters, or in their devices
pub has_device_of : (k : ℕ) (rs : List Reporter) → has_device k rs ≡ list_any (is_number k) (devices_of rs)
unfolding has_device
has_device_of k [] = refl
has_device_of k (r ∷ rs) = ap (λ b. is_number k r.device || b) (has_device_of k rs)

device_taken : (h k : Half) (ws : List (List ℕ)) → with_device h ws ≡ Ok k → Taken h k
unfolding with_device
device_taken h k (n ∷ limit ∷ []) e =
    bind_then (number_upto 7 n) _ k _ e (λ d d_is e1.
    bind_then (number_upto 10000 limit) _ k _ e1 (λ l l_is e2.
    test_then Twice (not (has_device d h.plan.reporters)) _ k _ e2 (λ fresh e3.
    added_taken h k (device_of d l) (upto_is 7 n d d_is, upto_is 10000 limit l l_is, refl)
    (sym (has_device_of d h.plan.reporters) ∙ not_true _ fresh) e3)))
device_taken h k _ e = cc

reporter_taken : (h k : Half) (ws : List (List ℕ)) → with_reporter h ws ≡ Ok k → Taken h k
unfolding with_reporter
reporter_taken h k [] e = cc
reporter_taken h k (kind ∷ ws) e =
    if_then (is kind (codes "list")) _ _ _ _ e (λ t e1. list_taken h k ws e1) (λ f e1.
    if_then (is kind (codes "device")) _ _ _ _ e1 (λ t e2. device_taken h k ws e2) (λ f e2. cc))

known_list_is : (reporters : List Reporter) (word : List ℕ) (n : ℕ) → known_list reporters word ≡ Ok n
    → is_list (slice_get reporters n) ≡ true
unfolding known_list
known_list_is reporters word n e =
    bind_then (known_below (length reporters) word) _ n _ e (λ m known e1.
    test_then Unknown (is_list (slice_get reporters m)) _ n _ e1 (λ is e2.
    ap (λ i. is_list (slice_get reporters i)) (sym (ok_is m n e2)) ∙ is))

no_device : (o : Option Reporter) (r : Reporter) → is_list o ≡ true → o ≡ Some r → r.device ≡ None
unfolding is_list
no_device None r is e = cc
no_device (Some s) r is e =
    let same : s ≡ r = cc in
    subst (λ (t : Reporter). t.device ≡ None) same (none s.device is)
  where
    none : (o : Option ℕ) → is_none o ≡ true → o ≡ None
    none None e = refl
    none (Some n) e = cc

one_act_taken : (h k : Half) (n : ℕ) (a : Act) → is_list (slice_get h.plan.reporters n) ≡ true → ActFits a
    → with_one_act h n a ≡ Ok k → Taken h k
unfolding with_one_act
one_act_taken h k n a list fits e =
    found_then Unknown (slice_get h.plan.reporters n) _ k _ e (λ r r_is e1.
    test_then Full (nat_lt (length r.acts) 10000) _ k _ e1 (λ room e2.
    an_act n a r r_is (no_device _ r list r_is) fits (ltb-true _ 10000 room) (sym (ok_is _ k e2))))

error_fits : (bank rec sev pri code addr info supp time : List ℕ) (a : Act) →
    error_of bank rec sev pri code addr info supp time ≡ Ok a → ActFits a
unfolding error_of
error_fits bank rec sev pri code addr info supp time a e =
    bind_then (number_upto 255 bank) _ a _ e (λ b b_is e1.
    bind_then (number_upto 255 rec) _ a _ e1 (λ r r_is e2.
    bind_then (severity sev) _ a _ e2 (λ s s_is e3.
    bind_then (number_upto 3 pri) _ a _ e3 (λ p p_is e4.
    bind_then (number_upto 255 code) _ a _ e4 (λ c c_is e5.
    bind_then (any_number addr) _ a _ e5 (λ n n_is e6.
    bind_then (any_number info) _ a _ e6 (λ i i_is e7.
    bind_then (any_number supp) _ a _ e7 (λ u u_is e8.
    bind_then (any_number time) _ a _ e8 (λ t t_is e9.
    subst ActFits (ok_is _ a e9) (record {
      bank = upto_is 255 bank b b_is;
      rec = upto_is 255 rec r r_is;
      priority = upto_is 3 pri p p_is;
      code = upto_is 255 code c c_is;
      address = any_is addr n n_is;
      info = any_is info i i_is;
      supplement = any_is supp u u_is;
      time = any_is time t t_is;
    }))))))))))

error_act_fits : (ws : List (List ℕ)) (a : Act) → error_act ws ≡ Ok a → ActFits a
unfolding error_act
error_act_fits (bank ∷ rec ∷ sev ∷ pri ∷ code ∷ addr ∷ info ∷ supp ∷ time ∷ []) a e =
    error_fits bank rec sev pri code addr info supp time a e
error_act_fits _ a e = cc

error_taken : (h k : Half) (r : List ℕ) (ws : List (List ℕ)) → with_error h r ws ≡ Ok k → Taken h k
unfolding with_error
error_taken h k r ws e =
    test_then Count (length ws == 9) _ k _ e (λ nine e1.
    bind_then (known_list h.plan.reporters r) _ k _ e1 (λ n known e2.
    bind_then (error_act ws) _ k _ e2 (λ a made e3.
    one_act_taken h k n a (known_list_is h.plan.reporters r n known) (error_act_fits ws a made) e3)))

raise_fits : (id hart : List ℕ) (a : Act) → raise_of id hart ≡ Ok a → ActFits a
unfolding raise_of
raise_fits id hart a e =
    bind_then (number_upto 0xffffffff id) _ a _ e (λ i i_is e1.
    bind_then (number_upto 255 hart) _ a _ e1 (λ n n_is e2.
    subst ActFits (ok_is (Raise i n) a e2) (upto_is 0xffffffff id i i_is, upto_is 255 hart n n_is)))

raise_taken : (h k : Half) (r : List ℕ) (ws : List (List ℕ)) → with_raise h r ws ≡ Ok k → Taken h k
unfolding with_raise
raise_taken h k r (id ∷ hart ∷ []) e =
    bind_then (known_list h.plan.reporters r) _ k _ e (λ n known e1.
    bind_then (raise_of id hart) _ k _ e1 (λ a made e2.
    one_act_taken h k n a (known_list_is h.plan.reporters r n known) (raise_fits id hart a made) e2))
raise_taken h k r _ e = cc

act_taken : (h k : Half) (ws : List (List ℕ)) → with_act h ws ≡ Ok k → Taken h k
unfolding with_act
act_taken h k (r ∷ kind ∷ ws) e =
    if_then (is kind (codes "error")) _ _ _ _ e (λ t e1. error_taken h k r ws e1) (λ f e1.
    if_then (is kind (codes "raise")) _ _ _ _ e1 (λ t e2. raise_taken h k r ws e2) (λ f e2. cc))
act_taken h k _ e = cc

-- ---- The schedule ----

entry_number_is : (word : List ℕ) (n : ℕ) → entry_number word ≡ Ok n → n ≤ 255
unfolding entry_number
entry_number_is word n e =
    test_then Word (is_digits word) _ n _ e (λ digits e1.
    found_then Range (number word) _ n _ e1 (λ m m_is e2.
    test_then Range (nat_le m 255) _ n _ e2 (λ low e3.
    let same : m ≡ n = cc in
    let small : m ≤ 255 = leb-true m 255 low in
    omega arith)))

entry_fits : (harts reporters : ℕ) (word : List ℕ) (s : Step) → entry harts reporters word ≡ Ok s
    → StepFits harts reporters s
unfolding entry hart_entry reporter_entry
entry_fits harts reporters [] s e = cc
entry_fits harts reporters (letter ∷ digits) s e =
    if_then (letter == 104) _ _ _ _ e
    (λ t e1. bind_then (entry_number digits) _ s _ e1 (λ n n_is e2.
    test_then Unknown (nat_lt n harts) _ s _ e2 (λ known e3.
    subst (StepFits harts reporters) (ok_is (step.Hart n) s e3)
    (ltb-true n harts known, entry_number_is digits n n_is))))
    (λ f e1. if_then (letter == 114) _ _ _ _ e1
    (λ t e2. bind_then (entry_number digits) _ s _ e2 (λ n n_is e3.
    test_then Unknown (nat_lt n reporters) _ s _ e3 (λ known e4.
    subst (StepFits harts reporters) (ok_is (step.Reporter n) s e4)
    (ltb-true n reporters known, entry_number_is digits n n_is))))
    (λ f e2. cc))

record EntriesAre (harts reporters : ℕ) (steps out : List Step) : Type 0 where
  more : List Step
  are : out ≡ steps ++ more
  fit : Each (StepFits harts reporters) more

entries_are : (harts reporters : ℕ) (steps : List Step) (ws : List (List ℕ)) (out : List Step)
    → with_entries harts reporters steps ws ≡ Ok out → EntriesAre harts reporters steps out
unfolding with_entries
entries_are harts reporters steps [] out e =
    record { more = []; are = sym (append-nil steps ∙ ok_is steps out e); fit = tt }
entries_are harts reporters steps (w ∷ ws) out e =
    bind_then (entry harts reporters w) _ out _ e (λ s made e1.
    let rest = entries_are harts reporters (steps ++ s ∷ []) ws out e1 in
    record {
      more = s ∷ rest.more;
      are = rest.are ∙ append_assoc steps (s ∷ []) rest.more;
      fit = (entry_fits harts reporters w s made, rest.fit);
    })

schedule_taken : (h k : Half) (ws : List (List ℕ)) → with_schedule h ws ≡ Ok k → Taken h k
unfolding with_schedule
schedule_taken h k ws e =
    let before = steps_of h.plan.schedule in
    bind_then (with_entries h.plan.harts (length h.plan.reporters) before ws) _ k _ e (λ steps made e1.
    test_then Full (nat_le (length steps) 200000) _ k _ e1 (λ few e2.
    let all = entries_are h.plan.harts (length h.plan.reporters) (steps_of h.plan.schedule) ws steps made in
    a_schedule all.more all.fit
    (subst (λ l. length l ≤ 200000) all.are (leb-true _ 200000 few))
    (sym (ok_is _ k e2) ∙ ap (λ l. record h { plan = record h.plan { schedule = Some l } }) all.are)))

-- ---- Every statement ----

pub taken : (h k : Half) (ws : List (List ℕ)) → statement h ws ≡ Ok k → Taken h k
unfolding statement
taken h k [] e = cc
taken h k (name ∷ ws) e =
    if_then (is name (codes "act")) _ _ _ _ e (λ t e1. act_taken h k ws e1) (λ f e1.
    if_then (is name (codes "op")) _ _ _ _ e1 (λ t e2. op_taken h k ws e2) (λ f e2.
    if_then (is name (codes "at")) _ _ _ _ e2 (λ t e3. address_taken h k ws e3) (λ f e3.
    if_then (is name (codes "schedule")) _ _ _ _ e3 (λ t e4. schedule_taken h k ws e4) (λ f e4.
    if_then (is name (codes "record")) _ _ _ _ e4 (λ t e5. record_taken h k ws e5) (λ f e5.
    if_then (is name (codes "event")) _ _ _ _ e5 (λ t e6. event_taken h k ws e6) (λ f e6.
    if_then (is name (codes "bank")) _ _ _ _ e6 (λ t e7. bank_taken h k ws e7) (λ f e7.
    if_then (is name (codes "plat")) _ _ _ _ e7 (λ t e8. plat_taken h k ws e8) (λ f e8.
    if_then (is name (codes "gather") && (h.plan.version == 2)) _ _ _ _ e8
    (λ t e9. gather_taken h k ws (eqb-true _ 2 (both_true _ _ t).1) e9) (λ f e9.
    if_then (is name (codes "start")) _ _ _ _ e9 (λ t e10. start_taken h k ws e10) (λ f e10.
    if_then (is name (codes "reporter")) _ _ _ _ e10 (λ t e11. reporter_taken h k ws e11) (λ f e11.
    if_then (is name (codes "board")) _ _ _ _ e11 (λ t e12. cc) (λ f e12. cc))))))))))))
