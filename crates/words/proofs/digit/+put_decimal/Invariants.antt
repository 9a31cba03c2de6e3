-- `digit::put_decimal` ends: each call is for a tenth.
use Rattle.words.proofs.digit.+put_decimal.Given as goal

abbrev pub decreases-put_decimal : goal.decreases-put_decimal
decreases-put_decimal l = l.n
