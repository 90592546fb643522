use Rattle.souper_format.proofs.items.format_text.Goals as goal

pub returns-in-Lhs-clause-reads_back : goal.returns-in-Lhs-clause-reads_back
returns-in-Lhs-clause-reads_back c = rw c.in-Lhs.is c.texts_of_source.ensures.reads_back

pub returns-in-Rhs-clause-reads_back : goal.returns-in-Rhs-clause-reads_back
returns-in-Rhs-clause-reads_back c = rw c.in-Rhs.is c.texts_of_source-in-Rhs.ensures.reads_back

pub returns-in-Rep-clause-reads_back : goal.returns-in-Rep-clause-reads_back
returns-in-Rep-clause-reads_back c = rw c.in-Rep.is c.texts_of_source-in-Rep.ensures.reads_back

pub returns-in-Lhs-clause-again : goal.returns-in-Lhs-clause-again
returns-in-Lhs-clause-again c = rw c.in-Lhs.is c.texts_of_source.ensures.again

pub returns-in-Rhs-clause-again : goal.returns-in-Rhs-clause-again
returns-in-Rhs-clause-again c = rw c.in-Rhs.is c.texts_of_source-in-Rhs.ensures.again

pub returns-in-Rep-clause-again : goal.returns-in-Rep-clause-again
returns-in-Rep-clause-again c = rw c.in-Rep.is c.texts_of_source-in-Rep.ensures.again
