-- The canonical lines of ops make those ops, each at its address.
use Rattle.std.proofs.Common.{◌≡◌, ℕ, ◌+◌, ◌<◌, ◌≤◌, ◌==◌, inl, inr, Bool, true, false, if◌then◌else◌, List, [], ◌∷◌, ◌++◌, map, length, Result, Ok, Err, refl, sym, ap, ◌∙◌, arith, append_assoc, decimal, subst}
use Rattle.std.proofs.lemmas.Bool.{lt-ltb, le-leb, eqb-true, eq-eqb}
use Rattle.std.proofs.lemmas.List.{append-nil}
use Rattle.board_plan.specs.declared.ops.Op.{Op}
use Rattle.board_plan.specs.declared.ops.Op.TheVariants.{Nop, Sbi, Set, Load, Save, Store, Inc, Jump, Jlt, Sret, Ack, Unplug}
use Rattle.board_plan.specs.declared.ops.Placed.{Placed}
use Rattle.board_plan.specs.declared.plan.LineFault.{LineFault}
use Rattle.board_plan.specs.declared.plan.LineFault.TheVariants.{Count}
use Rattle.board_plan.specs.Words.{◌>>=◌, is}
use Rattle.board_plan.specs.OpForms.{bare_op, argument_at, arguments, call_of, sbi_op, set_op, load_op, save_op, store_op, inc_op, jump_op, jlt_op, ack_op, unplug_op, op_of}
use Rattle.board_plan.specs.Script.{Half, has_op, with_address, placed, with_op, statement}
use Rattle.board_plan.specs.Canonical.{op_words, op_line, at_line, at_lines, op_lines}
use Rattle.board_script.proofs.Chains.{EachFits}
use Rattle.board_script.proofs.Fits.{IsU64, ArgsFit, OpFits, IsOpAddress, behind, IsNext, PlacedFits, with_next, with_ops}
use Rattle.board_script.proofs.Kept.{behind-last}
use Rattle.board_script.proofs.Texts.{IsLine, ArePlain, Makes, makes_none, makes_one, makes_both, makes_same, plain_decimal}
use Rattle.board_script.proofs.WordsAgain.{any_again, upto_again, address_again, register_again, register_plain, value_small, value_again}

-- ---- An op ----

-- the op of its words
abbrev op_of_words : List (List ℕ) → Result Op LineFault
op_of_words [] = Err Count
op_of_words (name ∷ ws) = op_of name ws

arguments_again : (args : List ℕ) → ArgsFit args → arguments (map decimal args) ≡ Ok args
unfolding arguments argument_at
arguments_again args f =
    subst (λ l. arguments (map decimal l) ≡ Ok l) (sym f.are)
    (rw (
      any_again f.a f.small_a,
      any_again f.b f.small_b,
      any_again f.c f.small_c,
      any_again f.d f.small_d,
      any_again f.e f.small_e,
    ) refl)

five : (args : List ℕ) → ArgsFit args → length (map decimal args) ≤ 5
five args f = subst (λ l. length (map decimal l) ≤ 5) (sym f.are) (omega arith)

call_again : (eid fid : ℕ) (args : List ℕ) → IsU64 eid → IsU64 fid → ArgsFit args
    → call_of (decimal eid) (decimal fid) (map decimal args) ≡ Ok (Sbi eid fid args)
unfolding call_of
call_again eid fid args e f g =
    rw (
      le-leb (length (map decimal args)) 5 (five args g),
      any_again eid e,
      any_again fid f,
      arguments_again args g,
    ) refl

op_of_again : (op : Op) → OpFits op → op_of_words (op_words op) ≡ Ok op
unfolding op_of is bare_op sbi_op set_op load_op save_op store_op inc_op jump_op jlt_op ack_op unplug_op
op_of_again Nop f = refl
op_of_again (Sbi eid fid args) f = call_again eid fid args f.0 f.1 f.2
op_of_again (Set reg value) f = rw (register_again reg, value_again reg value f) refl
op_of_again (Load reg addr) f = rw (register_again reg, any_again addr f) refl
op_of_again (Save reg addr) f = rw (register_again reg, any_again addr f) refl
op_of_again (Store addr value) f = rw (any_again addr f.0, any_again value f.1) refl
op_of_again (Inc addr) f = rw (any_again addr f) refl
op_of_again (Jump pc) f = rw (any_again pc f) refl
op_of_again (Jlt addr value pc) f = rw (any_again addr f.0, any_again value f.1, any_again pc f.2) refl
op_of_again Sret f = refl
op_of_again (Ack bank) f = rw (upto_again 255 bank f (omega arith)) refl
op_of_again (Unplug reporter) f = rw (upto_again 255 reporter f (omega arith)) refl

args_plain : (args : List ℕ) → ArgsFit args → ArePlain (map decimal args)
args_plain args f =
    subst (λ l. ArePlain (map decimal l)) (sym f.are) (
      plain_decimal f.a f.small_a,
      (
        plain_decimal f.b f.small_b,
        (
          plain_decimal f.c f.small_c,
          (plain_decimal f.d f.small_d, (plain_decimal f.e f.small_e, tt)),
        ),
      ),
    )

op_plain : (op : Op) → OpFits op → ArePlain (op_words op)
op_plain Nop f = (refl, tt)
op_plain (Sbi eid fid args) f = (refl, (plain_decimal eid f.0, (plain_decimal fid f.1, args_plain args f.2)))
op_plain (Set reg value) f =
    (refl, (register_plain reg, (plain_decimal value (value_small reg value f), tt)))
op_plain (Load reg addr) f = (refl, (register_plain reg, (plain_decimal addr f, tt)))
op_plain (Save reg addr) f = (refl, (register_plain reg, (plain_decimal addr f, tt)))
op_plain (Store addr value) f = (refl, (plain_decimal addr f.0, (plain_decimal value f.1, tt)))
op_plain (Inc addr) f = (refl, (plain_decimal addr f, tt))
op_plain (Jump pc) f = (refl, (plain_decimal pc f, tt))
op_plain (Jlt addr value pc) f =
    (refl, (plain_decimal addr f.0, (plain_decimal value f.1, (plain_decimal pc f.2, tt))))
op_plain Sret f = (refl, tt)
op_plain (Ack bank) f = (refl, (plain_decimal bank (omega arith), tt))
op_plain (Unplug reporter) f = (refl, (plain_decimal reporter (omega arith), tt))

-- ---- Its line ----

with_op_is : (h : Half) (ws : List (List ℕ)) → with_op h ws ≡ (op_of_words ws >>= placed h)
unfolding with_op
with_op_is h [] = refl
with_op_is h (name ∷ ws) = refl

placed_again : (h : Half) (op : Op) → has_op h.next h.plan.ops ≡ false → length h.plan.ops < 4096
    → placed h op ≡ Ok (with_ops h (h.plan.ops ++ record { pc = h.next; op = op } ∷ []) (h.next + 4))
unfolding placed
placed_again h op fresh room = rw (fresh, lt-ltb (length h.plan.ops) 4096 room) refl

op_again : (h : Half) (op : Op) → OpFits op → has_op h.next h.plan.ops ≡ false → length h.plan.ops < 4096
    → statement h (op_line op) ≡ Ok (with_ops h (h.plan.ops ++ record { pc = h.next; op = op } ∷ []) (h.next + 4))
unfolding statement op_line is
op_again h op f fresh room =
    with_op_is h (op_words op) ∙ ap (λ r. r >>= placed h) (op_of_again op f) ∙ placed_again h op fresh room

op_is_line : (op : Op) → OpFits op → IsLine (op_line op)
unfolding op_line
op_is_line op f = ((refl, op_plain op f), refl)

-- ---- The address before it ----

address_made : (h : Half) (pc : ℕ) → IsOpAddress pc → statement h (at_line pc) ≡ Ok (with_next h pc)
unfolding statement with_address is
address_made h pc f = rw (address_again pc f) refl

address_is_line : (pc : ℕ) → IsOpAddress pc → IsLine (at_line pc)
address_is_line pc f = let low = f.0 in ((refl, (plain_decimal pc (omega arith), tt)), refl)

not_next : (h : Half) (pc : ℕ) → h.next ≡ behind 0x1000 h.plan.ops → IsNext h.plan.ops pc → (pc == h.next) ≡ false
    → IsOpAddress pc
not_next h pc is (inl next) other = let same = eq-eqb pc h.next (next ∙ sym is) in cc
not_next h pc is (inr given) other = given

addresses_made : (h : Half) (pc : ℕ) → h.next ≡ behind 0x1000 h.plan.ops → IsNext h.plan.ops pc
    → Makes h (at_lines h.next pc) (with_next h pc)
unfolding at_lines
addresses_made h pc is f = made (pc == h.next) refl
  where
    made : (b : Bool) → (pc == h.next) ≡ b → Makes h (if b then [] else at_line pc ∷ []) (with_next h pc)
    made true e = makes_none h _ (ap (with_next h) (sym (eqb-true pc h.next e)))
    made false e =
        let given = not_next h pc is f e in
        makes_one h (at_line pc) _ (address_is_line pc given) (address_made h pc given)

-- ---- All ops ----

pub ops_again : (ps : List Placed) (h : Half) → h.next ≡ behind 0x1000 h.plan.ops
    → EachFits PlacedFits h.plan.ops ps
    → Makes h (op_lines h.next ps) (with_ops h (h.plan.ops ++ ps) (behind h.next ps))
unfolding op_lines
ops_again [] h is f = makes_none h _ (ap (λ l. with_ops h l h.next) (sym (append-nil h.plan.ops)))
ops_again (p ∷ ps) h is f =
    let there = with_next h p.pc in
    let k = with_ops h (h.plan.ops ++ p ∷ []) (p.pc + 4) in
    makes_same h _ _ _
    (ap (λ l. with_ops h l (behind (p.pc + 4) ps)) (append_assoc h.plan.ops (p ∷ []) ps))
    (makes_both h there _ (at_lines h.next p.pc) (op_line p.op ∷ op_lines (p.pc + 4) ps)
    (addresses_made h p.pc is f.0.next)
    (makes_both there k _ (op_line p.op ∷ []) (op_lines (p.pc + 4) ps)
    (makes_one there (op_line p.op) k (op_is_line p.op f.0.op) (op_again there p.op f.0.op f.0.fresh f.0.room))
    (ops_again ps k (sym (behind-last 0x1000 h.plan.ops p)) f.1)))
