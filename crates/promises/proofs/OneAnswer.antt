-- Each public call's contract leaves one answer: whatever two runs on the same arguments answer and leave in what they are lent, if each meets
-- the contract, they are the same. A line for each call lists all that a run answers and leaves. Assumes nothing.
use Rattle.promises.proofs.One.{One, ◌&◌, agree, agree₂, agree₃, agree₄}
use Rattle.promises.proofs.OneRow.{at_row}
use Rattle.reader.proofs.check_formula.Reads as check-formula
use Rattle.reader.proofs.check_term.Reads as check-term
use Rattle.reader.proofs.formula_input.Reads as formula-input
use Rattle.reader.proofs.term_input.Reads as term-input
use Rattle.reader.proofs.name_input.Reads as name-input
use Rattle.proof.proofs.check_proof.Reads as check-proof
use Rattle.proof.proofs.proof_input.Reads as proof-input
use Rattle.formula_text.proofs.pretty.Reads as formula-text-pretty
use Rattle.term_text.proofs.pretty.Reads as term-text-pretty
use Rattle.term.proofs.child.locate.Reads as locate
use Rattle.term.proofs.child.child.Reads as child
use Rattle.term.proofs.child.child_fault.Reads as child-fault
use Rattle.free.proofs.free_vars.Reads as free-vars
use Rattle.substitution.proofs.substitute.Reads as substitute
use Rattle.step.proofs.step.Reads as step
use Rattle.step.proofs.is_normal.Reads as is_normal
use Rattle.reduction.proofs.normalize_bounded.Reads as normalize-bounded
use Rattle.straight.proofs.is_straight.Reads as is-straight
use Rattle.extract.proofs.extract.Reads as extract
use Rattle.stored.proofs.store.Reads as store
use Rattle.stored.proofs.load.Reads as load
use Rattle.program.proofs.run.printed.Reads as printed

pub check-formula-has-one : One check-formula.Learnt (λ κ r s. r)
check-formula-has-one κ a r r' s s' = agree

pub check-term-has-one : One check-term.Learnt (λ κ r s. r)
check-term-has-one κ a r r' s s' = agree

pub formula-input-has-one : One formula-input.Learnt (λ κ r s. r)
formula-input-has-one κ a r r' s s' = agree

pub term-input-has-one : One term-input.Learnt (λ κ r s. r)
term-input-has-one κ a r r' s s' = agree

pub name-input-has-one : One name-input.Learnt (λ κ r s. r)
name-input-has-one κ a r r' s s' = agree

pub check-proof-has-one : One check-proof.Learnt (λ κ r s. r)
check-proof-has-one κ a r r' s s' = agree

pub proof-input-has-one : One proof-input.Learnt (λ κ r s. r)
proof-input-has-one κ a r r' s s' = agree

pub formula-text-pretty-has-one : One formula-text-pretty.Learnt (λ κ r s. r & s.1.0.now)
formula-text-pretty-has-one κ a r r' s s' = agree₂

pub term-text-pretty-has-one : One term-text-pretty.Learnt (λ κ r s. r & s.1.0.now)
term-text-pretty-has-one κ a r r' s s' = agree₂

pub locate-has-one : One locate.Learnt (λ κ r s. r)
locate-has-one κ a r r' s s' = agree

-- the bytes of the part, and where it stands
pub child-has-one : One child.Learnt (λ κ r s. r.now & r.ref_ptr.0 & r.ref_ptr.1)
child-has-one κ a r r' s s' = agree₃

pub child-fault-has-one : One child-fault.Learnt (λ κ r s. r)
child-fault-has-one κ a r r' s s' = agree

pub free-vars-has-one : One free-vars.Learnt (λ κ r s. r & s.1.0.now)
free-vars-has-one κ a r r' s s' = agree₂

pub substitute-has-one : One substitute.Learnt (λ κ r s. r & s.1.1.1.0.now & s.1.1.1.1.0.now)
substitute-has-one κ a r r' s s' = agree₃

pub step-has-one : One step.Learnt (λ κ r s. r & s.1.0.now & s.1.1.0.now)
step-has-one κ a r r' s s' = agree₃

pub is-normal-has-one : One is_normal.Learnt (λ κ r s. r)
is-normal-has-one κ a r r' s s' = agree

pub normalize-bounded-has-one : One normalize-bounded.Learnt (λ κ r s. r & s.1.1.0.now & s.1.1.1.0.now)
normalize-bounded-has-one κ a r r' s s' = agree₃

pub is-straight-has-one : One is-straight.Learnt (λ κ r s. r)
is-straight-has-one κ a r r' s s' = agree

pub extract-has-one : One extract.Learnt (λ κ r s. r & s.1.1.0.now & s.1.1.1.0.now)
extract-has-one κ a r r' s s' p q = agree₃ (at_row p) (at_row q)

pub store-has-one : One store.Learnt (λ κ r s. r & s.1.1.0.now)
store-has-one κ a r r' s s' = agree₂

pub load-has-one : One load.Learnt (λ κ r s. r & s.1.1.0.now)
load-has-one κ a r r' s s' = agree₂

pub printed-has-one : One printed.Learnt (λ κ r s. r & s.1.1.1.0.now & s.1.0.now & s.1.1.0.now)
printed-has-one κ a r r' s s' = agree₄
