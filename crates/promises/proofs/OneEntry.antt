-- Each C entry point's contract leaves one answer: the 16 numbers that it tells, the output and the scratch. A line for each lists them. Assumes nothing.
use Rattle.promises.proofs.One.{One, ◌&◌, agree, agree₂, agree₃}
use Rattle.promises.proofs.OneRow.{at_row}
use Rattle.entry.proofs.patch_check_formula.Reads as patch-check-formula
use Rattle.entry.proofs.patch_check_term.Reads as patch-check-term
use Rattle.entry.proofs.patch_check_proof.Reads as patch-check-proof
use Rattle.entry.proofs.patch_formula_text.Reads as patch-formula-text
use Rattle.entry.proofs.patch_term_text.Reads as patch-term-text
use Rattle.entry.proofs.patch_free_vars.Reads as patch-free-vars
use Rattle.entry.proofs.patch_substitute.Reads as patch-substitute
use Rattle.entry.proofs.patch_step.Reads as patch-step
use Rattle.entry.proofs.patch_normalize_bounded.Reads as patch-normalize-bounded
use Rattle.entry.proofs.patch_is_normal.Reads as patch-is-normal
use Rattle.entry.proofs.straight_terms.patch_is_straight.Reads as patch-is-straight
use Rattle.entry.proofs.proofs_to_terms.patch_extract.Reads as patch-extract
use Rattle.entry.proofs.files.patch_store_term.Reads as patch-store-term
use Rattle.entry.proofs.files.patch_store_proof.Reads as patch-store-proof
use Rattle.entry.proofs.files.patch_load_term.Reads as patch-load-term
use Rattle.entry.proofs.files.patch_load_proof.Reads as patch-load-proof
use Rattle.entry.proofs.patch_child.Reads as patch-child

pub patch-check-formula-has-one : One patch-check-formula.Learnt (λ κ r s. s.1.0.now)
patch-check-formula-has-one κ a r r' s s' = agree

pub patch-check-term-has-one : One patch-check-term.Learnt (λ κ r s. s.1.0.now)
patch-check-term-has-one κ a r r' s s' = agree

pub patch-check-proof-has-one : One patch-check-proof.Learnt (λ κ r s. s.1.0.now)
patch-check-proof-has-one κ a r r' s s' = agree

pub patch-formula-text-has-one : One patch-formula-text.Learnt (λ κ r s. s.1.1.0.now & s.1.0.now)
patch-formula-text-has-one κ a r r' s s' = agree₂

pub patch-term-text-has-one : One patch-term-text.Learnt (λ κ r s. s.1.1.0.now & s.1.0.now)
patch-term-text-has-one κ a r r' s s' = agree₂

pub patch-free-vars-has-one : One patch-free-vars.Learnt (λ κ r s. s.1.1.0.now & s.1.0.now)
patch-free-vars-has-one κ a r r' s s' = agree₂

pub patch-substitute-has-one : One patch-substitute.Learnt (λ κ r s. s.1.1.1.1.1.0.now & s.1.1.1.0.now & s.1.1.1.1.0.now)
patch-substitute-has-one κ a r r' s s' = agree₃

pub patch-step-has-one : One patch-step.Learnt (λ κ r s. s.1.1.1.0.now & s.1.0.now & s.1.1.0.now)
patch-step-has-one κ a r r' s s' = agree₃

pub patch-normalize-bounded-has-one : One patch-normalize-bounded.Learnt (λ κ r s. s.1.1.1.1.0.now & s.1.1.0.now & s.1.1.1.0.now)
patch-normalize-bounded-has-one κ a r r' s s' = agree₃

pub patch-is-normal-has-one : One patch-is-normal.Learnt (λ κ r s. s.1.0.now)
patch-is-normal-has-one κ a r r' s s' = agree

pub patch-is-straight-has-one : One patch-is-straight.Learnt (λ κ r s. s.1.0.now)
patch-is-straight-has-one κ a r r' s s' = agree

pub patch-extract-has-one : One patch-extract.Learnt (λ κ r s. s.1.1.1.1.0.now & s.1.1.0.now & s.1.1.1.0.now)
patch-extract-has-one κ a r r' s s' p q = agree₃ (at_row p) (at_row q)

pub patch-store-term-has-one : One patch-store-term.Learnt (λ κ r s. s.1.1.0.now & s.1.0.now)
patch-store-term-has-one κ a r r' s s' = agree₂

pub patch-store-proof-has-one : One patch-store-proof.Learnt (λ κ r s. s.1.1.0.now & s.1.0.now)
patch-store-proof-has-one κ a r r' s s' = agree₂

pub patch-load-term-has-one : One patch-load-term.Learnt (λ κ r s. s.1.1.0.now & s.1.0.now)
patch-load-term-has-one κ a r r' s s' = agree₂

pub patch-load-proof-has-one : One patch-load-proof.Learnt (λ κ r s. s.1.1.0.now & s.1.0.now)
patch-load-proof-has-one κ a r r' s s' = agree₂

pub patch-child-has-one : One patch-child.Learnt (λ κ r s. s.1.1.0.now)
patch-child-has-one κ a r r' s s' = agree
