mod Step
