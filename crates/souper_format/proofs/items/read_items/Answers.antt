use Rattle.souper_format.proofs.items.read_items.Goals as goal

pub returns-in-Err-clause-refused : goal.returns-in-Err-clause-refused
returns-in-Err-clause-refused c = rw c.in-Lhs.is c.in-Err.ensures.refused

pub returns-in-Err-parse_right_hand_sides_str-clause-refused : goal.returns-in-Err-parse_right_hand_sides_str-clause-refused
returns-in-Err-parse_right_hand_sides_str-clause-refused c = rw c.in-Rhs.is c.in-Err-parse_right_hand_sides_str.ensures.refused

pub returns-in-Err-parse_replacements_str-clause-refused : goal.returns-in-Err-parse_replacements_str-clause-refused
returns-in-Err-parse_replacements_str-clause-refused c = rw c.in-Rep.is c.in-Err-parse_replacements_str.ensures.refused
